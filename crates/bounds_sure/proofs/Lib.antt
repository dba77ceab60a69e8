-- How the marks of the cells are shown to be the definition's. The code lists a cell's permitted neighbours in an array of eight places and goes
-- through them; the invariant of each such loop is that what is left of the list decides. Loops has the laws for a list that grows direction by
-- direction, and for window cells that are told by their flags (`sure_flagged`).
pub mod Loops
