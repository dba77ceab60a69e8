-- How a square of window costs is shown to hold least walks. The entry from one window to another is the least built cost of the first one's cells,
-- built for the other (Least). A walk between two cells ends in a reached cell, and a reached cell has a walk that comes to its built cost (Walked),
-- so that the entry is the least of all walks (Promise). Columns shows that a square filled column by column is the definition's, Numbers and Told
-- what 19 and 20 say of the steps, and Calls what is promised of a refused call and of an accepted one.
pub mod Examples
pub mod Least
pub mod Walked
pub mod Numbers
pub mod Told
pub mod Promise
pub mod Columns
pub mod Calls
