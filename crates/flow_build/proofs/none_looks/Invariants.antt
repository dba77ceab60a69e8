-- `flow_build::none_looks` meets its contract. The loop's invariant: where all were kept so far, each of the cells passed keeps its byte.
-- Assumes nothing.
use mathlib.Core.Path.{◌≡◌}
use mathlib.Core.Bool.{true}
use Prim.Native.Nat.{ℕ, ◌<◌}
use lib.ListN.{get_or}
use Rattle.flow_build.specs.Inner.{is_kept}
use Rattle.flow_build.proofs.none_looks.Given as goal

abbrev pub invariant-loop-byte : goal.invariant-loop-byte
invariant-loop-byte l = l.kept ≡ true → (k : ℕ) → k < l.byte-index → is_kept (get_or l.sheet k 0) ≡ true
