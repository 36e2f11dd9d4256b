-- Chains whose records read on, and never back, are read from at most the bytes before them.
use Rattle.std.proofs.Common.{ℕ, ◌-◌, ◌≤◌, List, length, None, arith}
use Rattle.imagesize_source.specs.Chain.{Said, Chain, chain_at, Advances}
use Rattle.imagesize_source.specs.Layout.{Layout}
use Rattle.imagesize_source.specs.State.{total}
use Rattle.imagesize_source.proofs.Spends.{Onto, said_to, chain_onto}

-- Each reading begins at the offset or behind it and behind the readings before, and so does the next record.
abbrev pub Ahead : {C X : Type 0} → ℕ → Layout (Said C X) → Type 0
Ahead q t = Onto (said_to (λ _. None)) q t

-- A chain of such records is read from at most the bytes behind its first offset.
pub chain_ahead : {C X : Type 0} (c : Chain C X) (d : List ℕ) → Advances c d
    → ((held : List C) (offset : ℕ) → Ahead offset (c.said held offset)) → total (chain_at c d).marks ≤ length d - c.first
chain_ahead c d adv each = omega (arith, chain_onto c d (λ _. None) adv each)
