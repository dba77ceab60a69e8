-- How planned sheets are shown to have arrows that arrive. In a sector planned without sight, with no cost 0, arrows lead to a window cell or to the goal:
-- that byte counts as arrived and none before it does, so the number is that of the moves (Window, `sightless_arrives`). Of a whole leg, leg_journey's
-- theorem brings a cart into the goal's sector, and that sector's numbers tell the rest (Way, `leg_told`). Examples works out the smallest floor on which
-- arrows with sight run in a circle.
pub mod Window
pub mod Way
pub mod Examples
