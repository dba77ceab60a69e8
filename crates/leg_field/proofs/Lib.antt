-- How the field behind a leg is shown to be the leg's own. Its number is the leg's for a sheet of 6,400 bytes, once the place is known to be in the list
-- (Numbers, `same_number`); 21 comes exactly where it is not (`beyond_told`). The steps up to the place are built in order, each with the cells that the
-- one before hands on (Built, `handed_on`), and the step at the place is built with positions (`answer_at`). What is promised of it is what is proved of
-- every started field (`accepts`).
pub mod Numbers
pub mod Built
