-- The rows of level tables.
use Rattle.std.specs.Prelude.{ℕ, false, List, slice_index_or}
use Rattle.av1_settings.specs.declared.level.LevelRow.{LevelRow}
use Rattle.av1_settings.specs.declared.level.LevelTables.{LevelTables}

-- what the levels allow, by their index
abbrev pub levels_of : LevelTables → List LevelRow
levels_of tables = tables.rows

-- what stands where there is no row
abbrev pub no_level : LevelRow
no_level = record { defined = false; max_pic_size = 0; max_h_size = 0; max_v_size = 0; max_display_rate = 0 }

abbrev pub level_at : LevelTables → ℕ → LevelRow
level_at tables index = slice_index_or (levels_of tables) index no_level
