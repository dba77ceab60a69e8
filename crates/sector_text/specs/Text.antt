-- What the sector printer prints (01, "Cases", last paragraphs): ten lines, a row each, every cell two lower-case hexadecimal digits, or
-- `no`, a space and the number. Each line ends in one line feed.
-- Assumes nothing.
use Rattle.std.specs.Prelude.{false, cond, List, [], ◌∷◌, ◌++◌, ℕ, eqb, take, drop, replicate}
use Rattle.route.specs.Step.{portal_of}
use Rattle.route.specs.Target.{target_of}
use Rattle.print_text.specs.Rows.{rows_text, decimal}
use Rattle.sector.specs.Sector.{sector_number, sector_bytes}

-- `no`, a space, the number and a line feed
unfoldable pub no_text : ℕ → List ℕ
no_text number = 110 ∷ 111 ∷ 32 ∷ decimal number ++ (10 ∷ [])

-- what is printed for an answer: the sheet of an accepted call, or the number of a refused one
unfoldable pub rendered : ℕ → List ℕ → List ℕ
rendered number sheet = cond (eqb number 0) (rows_text sheet 10) (no_text number)

-- what is printed for an input: the sector call on the first 100 bytes as costs and the rest as step, with no previous field, so that a step with
-- a window is refused (02, "Job 8")
unfoldable pub printed : List ℕ → List ℕ
printed input =
    let costs = take 100 input in
    let step = drop 100 input in
    rendered (sector_number costs step false [] (replicate 100 0)) (sector_bytes costs (target_of step) (portal_of step) false [])
