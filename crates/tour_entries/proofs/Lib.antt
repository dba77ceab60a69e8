-- How the least figure is shown to be the sum of the cheapest entries: the sum goes window by window from the second on, and Figure says what is left
-- of it at each window. The loops of `cheapest_entry` and `least_figure` keep that.
pub mod Figure
