-- What starting and building a target's field comes to. A reader of the promises needs none of it.
-- Assumes nothing.
use Rattle.std.specs.Prelude.{List, ℕ}
use Rattle.route.specs.declared.Target.{Target}
use Rattle.route.specs.Inner.{held_target}
use Rattle.integration_field.specs.declared.IntegrationField.{IntegrationField}
use Rattle.integration_started.specs.Started.{started}
use Rattle.integration_build.specs.Without.{built_without}

-- the field that a target starts, built without positions
abbrev pub target_field : List ℕ → Target → IntegrationField
target_field costs target = built_without costs (started costs (held_target target))
