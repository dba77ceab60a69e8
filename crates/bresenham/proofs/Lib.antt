-- That the code draws the line of the definition. One loop, `walk`, draws all four kinds: it keeps the offset and the difference of step k, of which
-- `line_nearest` shows that they find the nearest cell, and writes the cell's index at its place. `Places` says which places are written after k steps,
-- from the first place or from the last, and `Drawn` that with all of them written the line is drawn. `draw_cells_between_points` picks the walk by
-- the tests that the definition makes, and the line calls answer the cells of the indexes drawn.
pub mod Places
pub mod Drawn
