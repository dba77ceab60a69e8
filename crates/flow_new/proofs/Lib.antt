-- How `new` is shown to answer the definition's number and sheet. The code writes the flags of all cells and then or-s the bits on, window cell by
-- window cell; the definition says each byte by itself. Starts shows that both make the same bytes, since no window cell comes twice (`new_made`).
-- Numbers has the lines of the table, and the sheet that is left beside each. Examples computes a window of one cell without a previous field.
pub mod Examples
pub mod Starts
pub mod Numbers
