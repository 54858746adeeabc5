-- Level tables that define no level.
use Rattle.std.specs.Prelude.{replicate}
use Rattle.av1_settings.specs.declared.level.LevelTables.{LevelTables}
use Rattle.av1_settings.specs.Levels.{no_level}

abbrev pub no_levels : LevelTables
no_levels = record { rows = replicate 31 no_level }
