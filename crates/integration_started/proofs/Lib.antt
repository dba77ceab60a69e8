-- How a started field is told cell by cell. Sight is followed wave by wave: `Kept` shows once that a fact which marking a cell and seeing a cell keep
-- is kept by a whole wave. `Wave` has such a fact: each word is one that sight may write, nothing is listed or queued twice (`Room`), and every wave
-- that queues something has met one cell more, so that sight ends before its 100th wave. It needs that no line goes over the goal: `Lines` says so of
-- any corner that is not the goal itself, and `FirstWave`, with a drawing, why the goal is never one. `FirstMet` has the cells that the first wave meets.
-- `Waves` puts the waves one after another and gives the theorem for a goal; `Corner` for a goal without sight, `Window` for a window, over `Before`,
-- what a cell is before sight; `Started` for a call's answer. `Words` has the flags of the words, `Sides` the steps around a square.
pub mod Examples
pub mod Words
pub mod Before
pub mod Sides
pub mod Kept
pub mod Room
pub mod Wave
pub mod FirstWave
pub mod FirstMet
pub mod Waves
pub mod Whole
pub mod Window
pub mod Corner
pub mod Lines
pub mod Started
