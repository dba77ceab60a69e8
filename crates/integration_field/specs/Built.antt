-- The built field (01, "Integration: build"; 02, "Job 10") and its count.
-- Assumes nothing.
use Rattle.std.specs.Prelude.{List, ℕ, length}
use Rattle.integration_field.specs.declared.IntegrationField.{IntegrationField}
use Rattle.integration_field.specs.Listed.{padded, list_of}
use Rattle.integration_field.specs.Build.{build}
use Rattle.integration_field.specs.Position.{positions as positionsOf}

-- a field, built: its cells, the list that it had, and each cell's position, whatever positions it was given
abbrev pub built_field : List ℕ → IntegrationField → IntegrationField
built_field costs f =
    record {
      field = (build costs f.field (list_of f)).cells;
      los_corners = padded (list_of f);
      count = length (list_of f);
      positions = positionsOf costs f.field (list_of f);
    }

-- the count answered: the waves that changed a cell
abbrev pub wave_count : List ℕ → IntegrationField → ℕ
wave_count costs f = (build costs f.field (list_of f)).waves
