-- The exit status of the program.
use Rattle.std.specs.Prelude.{ℕ, zero, suc, Bool, if◌then◌else◌}

-- the exit status for this many files, by whether one of them has an error
abbrev pub exit_status : ℕ → Bool → ℕ
exit_status zero refused = 2
exit_status (suc _) refused = if refused then 1 else 0
