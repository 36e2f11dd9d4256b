use Rattle.std.proofs.Common.{◌≡◌, length}
use Rattle.imagesize_stream.specs.Parts.{next_of}
use Rattle.imagesize_uses.proofs.Rounds.{Fetching, ahead, next_start}
use Rattle.imagesize_uses.proofs.remote.probe_remote.Given as goal

-- the input may be the one that is fetched, and each fetch passed an offset of its marks
abbrev pub invariant-rounds : goal.invariant-rounds
invariant-rounds g l = (g.R.Remote.input l.remote ≡ g.R.Remote.input l.fn.remote)
    × Fetching (g.R.Remote.input l.fn.remote) l.probe (g.R.Remote.fetches l.fn.remote) (g.R.Remote.fetches l.remote)
    (g.R.Remote.asked l.fn.remote) (g.R.Remote.asked l.remote)
    × (length l.buffer ≡ 1024)

abbrev pub decreases-rounds : goal.decreases-rounds
decreases-rounds g l =
    let d = g.R.Remote.input l.fn.remote in ahead d (next_start (length d) (next_of l.probe))
