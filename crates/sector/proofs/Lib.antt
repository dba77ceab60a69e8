-- How the sector call is proved. Its number is the first row of a table that holds; an accepted call runs three parts that are proved below it: start,
-- build, write. What is promised of costs and arrows is proved of the definitions (`integration_walks`, `flow_arrows`) and only handed on here.
--     Numbers     the number: what is known of an accepted call, and when 16, 17 and 12 are due
--     Planned     what the three parts leave, and all that is promised of a refused and of an accepted call
--     Lent        a previous field as an Option, or as a yes or no beside numbers
--     Zeros       a previous field of zeros gives the bytes that none gives
--     Examples    number 17, computed
pub mod Examples
pub mod Lent
pub mod Numbers
pub mod Planned
pub mod Zeros
