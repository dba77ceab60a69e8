-- The walks of demand 3 from a window alone: where one ends, the cell is reached; and a reached cell has one that comes to its built cost.
--     walked_reached    beside a reached cell every cell but a wall is reached, so that a walk's end is
--     reached_walked    the least walk into a reached cell comes to what it holds
-- Assumes nothing.
use mathlib.Core.Path.{◌≡◌, sym, ap, ◌∙◌}
use mathlib.Core.Bool.{false, true≢false}
use mathlib.Core.Logic.{◌⊎◌, inl, inr}
use mathlib.Core.List.{List}
use Prim.Native.Nat.{ℕ, ◌≤◌, ◌<◌}
use native.Mathlib.Omega.{arith}
use lib.ListN.{length, get_or}
use Rattle.integration_waves.specs.Walks.{start, move}
use Rattle.route.specs.Target.{to_window, GoalCell, WindowIn}
use Rattle.integration_field.specs.Word.{low, is_impassable}
use Rattle.integration_field.specs.Listed.{list_of}
use Rattle.integration_field.proofs.Flags.{small_flag}
use Rattle.integration_started.specs.Started.{started}
use Rattle.integration_walks.specs.Walks.{Wall, Enterable, StartedLeast}
use Rattle.integration_walks.proofs.Ground.{among_mem, mem_among}
use Rattle.integration_walks.proofs.Promise.{demand3}
use Rattle.flow_arrows.specs.Arrows.{built_cost}
use Rattle.flow_arrows.specs.Promise.{built_cells}
use Rattle.flow_arrows.proofs.Fall.{Sector, Plain, end_word_law, by_kind, spreads}
use Rattle.flow_arrows.proofs.CellBytes.{window_sector}
use Rattle.window_square.specs.Promise.{WindowWalk}

module _ (costs window : List ℕ) (full : length costs ≡ 100) (window_in : WindowIn window) (byte : (x : ℕ) → x < 100 → get_or costs x 0 ≤ 255) where
  abbrev cells : List ℕ
  cells = (started costs (to_window window)).field

  abbrev corners : List ℕ
  corners = list_of (started costs (to_window window))

  abbrev built : List ℕ
  built = built_cells costs (to_window window)

  sector : Sector costs window cells corners built
  sector = window_sector costs window full window_in byte

  abbrev MayGo : ℕ → Type 0
  MayGo = Enterable costs cells corners (Wall costs (to_window window)) (GoalCell (to_window window))

  -- what may be entered has no wall's flag once built
  no_flag : (x : ℕ) → MayGo x → is_impassable (get_or built x 0) ≡ false
  no_flag x o =
      by_kind sector x o.inside
      (λ a e. ap is_impassable e)
      (λ c a e. absurd (o.no_wall (record { impassable = c; not_goal = λ g. g; not_window = λ m. absurd (a (mem_among x window m)) })))
      (λ p l. small_flag (get_or built x 0) 25 (omega arith))

  pub walked_reached : {k x s : ℕ} → WindowWalk costs (to_window window) k x s → built_cost built x < 65535
  walked_reached {x = x} (start c e) = omega (arith, ap low (end_word_law sector x (mem_among x window (rw sector.started.list at c))))
  walked_reached {x = x} (move {y = y} w b o e) = spreads sector y x b (walked_reached w) (no_flag x o)

  least : StartedLeast costs cells corners (Wall costs (to_window window)) (GoalCell (to_window window)) built
  least = (demand3 costs (to_window window) full window_in).least

  pub reached_walked : (x : ℕ) → x < 100 → built_cost built x < 65535 → (k : ℕ) × WindowWalk costs (to_window window) k x (built_cost built x)
  reached_walked x h r =
      by_kind sector x h
      (λ a e. (
        0,
        start {x = x} {s = built_cost built x} (rw sector.started.list (among_mem x window a))
            (omega (arith, ap low e, ap low (sector.started.end_cell x a))),
      ))
      (λ c a e. absurd (omega (arith, ap low e)))
      (λ p l. plain p (least.attained x (enterable p)))
    where
      enterable : Plain sector x → MayGo x
      enterable p = record {
        inside = h;
        no_wall = λ w. absurd (p.no_wall w.impassable);
        not_in_sight = λ l. true≢false (sym l ∙ sector.started.no_sight x h);
        no_goal = λ g. g;
      }

      plain : Plain sector x → (built_cost built x ≡ low (get_or cells x 0)) ⊎ ((k : ℕ) × WindowWalk costs (to_window window) k x (built_cost built x))
          → (k : ℕ) × WindowWalk costs (to_window window) k x (built_cost built x)
      plain p (inl e) = absurd (omega (arith, e, ap low (sector.started.other_cell x h p.no_wall p.no_end)))
      plain p (inr w) = w
