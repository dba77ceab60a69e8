-- The first bytes of a flow field as the program makes them: the flags of all cells, then the bits of the window cells.
-- Assumes nothing.
use Rattle.std.specs.Prelude.{Bool, List, [], ◌∷◌, map, ℕ, get_or, set, Option, Some, None}
use Rattle.std.specs.Int.Bits.{bit_or}
use Rattle.utilities.specs.Lists.{below}
use Rattle.route.specs.declared.PortalWindow.{PortalWindow}
use Rattle.flow_byte.specs.New.{start_of, window_bits, new_bytes}

unfoldable pub start_bytes : List ℕ → List ℕ
start_bytes cells = map (λ i. start_of (get_or cells i 0)) (below 100)

unfoldable pub with_bits : PortalWindow → Bool → List ℕ → List ℕ → List ℕ → List ℕ
with_bits portal has previous [] sheet = sheet
with_bits portal has previous (n ∷ ns) sheet = with_bits portal has previous ns (set sheet n (bit_or (get_or sheet n 0) (window_bits portal has previous n)))

-- without a window the flags alone
abbrev pub first_bytes : Option PortalWindow → List ℕ → List ℕ → Bool → List ℕ → List ℕ
first_bytes (Some portal) window cells has previous = new_bytes portal window cells has previous
first_bytes None window cells has previous = start_bytes cells
