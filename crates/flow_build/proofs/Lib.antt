-- How `build` is shown to make the definition's bytes. The definition looks around from each cell; the code lets all cells look together, one direction
-- a pass, and keeps each look as two numbers, a key and the bits of a direction (specs/Inner). Passes shows that the two numbers stay those of the
-- definition's look: for one neighbour by the cases of the definition (`seen_held`), for one cell and one direction (`on_cell`, `on_outside`), and for
-- all cells (`pass_on`). The loops over columns and rows, and `look_around`'s eight calls, put these together; `held_bytes_law` then reads the bytes.
pub mod Passes
