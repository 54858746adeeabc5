-- A GOP in which the file ends.
use Rattle.std.specs.Prelude.{ℕ, ℤ, pos, ◌+ℤ◌, ◌-ℤ◌}
use Rattle.std.specs.Int.{int_min}
use Rattle.pass_data.specs.declared.given.Header.{Header}

-- the temporal units from the start of the GOP to the end of the file
abbrev pub units_to_end : Header → ℕ → ℤ
units_to_end h gop_start = h.ntus -ℤ pos gop_start

-- as many as are seen, and more, as far as the key frame that would be due, and as the delay
abbrev pub units_guessed : Header → ℕ → ℤ → ℤ → ℤ → ℤ
units_guessed h gop_start max_interval seen delay =
    seen +ℤ int_min (max_interval -ℤ units_to_end h gop_start) (delay -ℤ seen)
