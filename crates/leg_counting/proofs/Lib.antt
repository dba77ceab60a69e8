-- How the window cells that count are shown to be listed. The code goes through the window's cells in order and keeps those of which a compared value
-- is below 65535: that is the definition's own list, filled place by place (`counting_cells`). Counting shows that what a step of a leg starts from is
-- inside its sector. Told says the same cells by bytes, rows and columns, the facing cell being the one straight across (`counting_told`). Examples
-- computes windows on which the rule decides.
pub mod Examples
pub mod Counting
pub mod Told
