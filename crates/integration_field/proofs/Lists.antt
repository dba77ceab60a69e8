-- Laws of lists in arrays of 100 places.
--     padded_length     100 places
--     padded_list       the list is what stands before its count
--     padded_at         a place of the list
--     padded_beyond     0 at every other place
--     padded_push       a place more, while there is room
--     no_position       no cell has a position before building
--     corners_listed    the corners of a field that is made of them
--     corners_length    a field's corners are as many as its count
-- Assumes nothing.
use mathlib.Core.Path.{◌≡◌}
use mathlib.Core.List.{List, [], ◌∷◌, ◌++◌}
use Prim.Native.Nat.{ℕ, ◌-◌, ◌<◌, ◌≤◌}
use native.Mathlib.Omega.{arith}
use lib.ListN.{length, get_or, set, take, replicate, get_or-append, get_or-replicate}
use lib.Seq.{take-append_seam, length-take-le}
use Rattle.utilities.specs.Padded.{ZeroBeyond}
use Rattle.utilities.proofs.Padded.{padded_length as to-length, padded_beyond as to-beyond, padded_push as to-push}
use Rattle.integration_field.specs.declared.IntegrationField.{IntegrationField}
use Rattle.integration_field.specs.Listed.{padded, list_of, no_positions, with_corners}

module _ (l : List ℕ) where
  pub padded_length : length l ≤ 100 → length (padded l) ≡ 100
  padded_length = to-length 100 0 l

  pub padded_list : take (length l) (padded l) ≡ l
  padded_list = take-append_seam l (replicate (100 - length l) 0)

  pub padded_at : (i : ℕ) → i < length l → get_or (padded l) i 0 ≡ get_or l i 0
  padded_at i h = get_or-append l (replicate (100 - length l) 0) 0 i h

  pub padded_beyond : ZeroBeyond 0 (length l) (padded l)
  padded_beyond = to-beyond 100 0 l

  pub padded_push : (x : ℕ) → length l < 100 → set (padded l) (length l) x ≡ padded (l ++ x ∷ [])
  padded_push = to-push 100 0 l

  pub corners_listed : (cells : List ℕ) → list_of (with_corners cells l) ≡ l
  corners_listed cells = padded_list

pub no_position : (x : ℕ) → x < 100 → get_or no_positions x 0 ≡ 255
no_position x h = get_or-replicate 100 x 255 0 h

module _ (f : IntegrationField) (long : length f.los_corners ≡ 100) (few : f.count ≤ 100) where
  pub corners_length : length (list_of f) ≡ f.count
  corners_length = length-take-le f.count f.los_corners (omega arith)
