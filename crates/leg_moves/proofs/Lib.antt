-- How one move of a cart, and its whole way, are shown to be told by the relation of moves alone. A byte's direction leads to the place where its bits
-- point, or nowhere (Leads), which makes one move right. A way either comes to a stand or comes again to a place, since a floor has 6,400 places
-- (Again); Told says both answers by moves, Numbers has the refusals, and Calls joins them. On the sheet of a planned leg the moves are those of
-- leg_journey's theorem (Driven), and the goal's byte makes a cart stand there (Goal). Examples works some out.
pub mod Numbers
pub mod Again
pub mod Told
pub mod Leads
pub mod Goal
pub mod Driven
pub mod Calls
pub mod Examples
