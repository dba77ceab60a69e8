-- What is written of a built field: contracts of functions beneath the call.
-- Assumes nothing.
use Rattle.std.specs.Prelude.{Bool, List, ℕ, Option}
use Rattle.route.specs.declared.PortalWindow.{PortalWindow}
use Rattle.flow_byte.specs.Look.{flow_build}
use Rattle.flow_new.specs.Inner.{first_bytes}

-- the flow field of built cells, new and built
abbrev pub flow_bytes : Option PortalWindow → List ℕ → List ℕ → Bool → List ℕ → List ℕ
flow_bytes portal window cells has previous = flow_build cells (first_bytes portal window cells has previous)
