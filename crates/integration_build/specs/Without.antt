-- Built, without positions: for callers that answer no field (02, "Job 10": costs, waves and arrows are untouched by positions).
-- Assumes nothing.
use Rattle.std.specs.Prelude.{List, ℕ, length}
use Rattle.integration_field.specs.declared.IntegrationField.{IntegrationField}
use Rattle.integration_field.specs.Listed.{padded, list_of}
use Rattle.integration_field.specs.Build.{build}

-- a field, built, but for its positions: its cells, the list that it had, and positions as they were given, 255 in a field that `init` made
abbrev pub built_without : List ℕ → IntegrationField → IntegrationField
built_without costs f =
    record {
      field = (build costs f.field (list_of f)).cells;
      los_corners = padded (list_of f);
      count = length (list_of f);
      positions = f.positions;
    }
