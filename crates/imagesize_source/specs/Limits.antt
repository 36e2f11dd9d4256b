-- The limits on how much is read.
use Rattle.std.specs.Prelude.{ℕ}

-- how many of an input's first bytes are kept, so that they are read only once
abbrev pub most_held : ℕ
most_held = 32

-- how many bytes more than the length of the input a call may read
abbrev pub allowance : ℕ
allowance = 64

-- how many interrupted reads a call retries
abbrev pub most_retries : ℕ
most_retries = 64

-- the bound, in bytes, for an input whose type is not known, and for a size at fixed offsets
abbrev pub stated_fixed : ℕ
stated_fixed = 41

-- the bound, in bytes, for a size in records, without the records themselves
abbrev pub stated_beside : ℕ
stated_beside = 64
