-- That waves find least walks, over any grid. `Least` goes by induction over the waves: what wave k changes is the sum of a walk of k moves, and no walk
-- of at most k moves comes to less than what wave k leaves. `End` shows that the waves end: with each wave the cells that hold no more than a changed
-- one become more (`Count` counts them), and there are only so many. `Decided` shows that nothing else fits the definition.
pub mod Count
pub mod Least
pub mod End
pub mod Decided
