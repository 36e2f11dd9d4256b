use Rattle.std.proofs.Common.{◌≡◌, ◌+◌, length, rules}
use Rattle.imagesize_boxes.proofs.Pieces.{piece_none, piece_some}
use Rattle.imagesize_boxes.proofs.formats.jxl.boxes.read_piece.Goals as goal

pub returns-then-most-eq0-clause-runs : goal.returns-then-most-eq0-clause-runs
returns-then-most-eq0-clause-runs g c = rw (c.if-most-eq0.true, c.new-piece.ensures)
    (piece_none (c.args.offset + c.args.distance) c.requires.sound)

pub returns-in_err-there-clause-runs : goal.returns-in_err-there-clause-runs
returns-in_err-there-clause-runs g c =
    let long : length c.read_there.new.buffer ≡ c.args.most = search rules in
    let h = piece_some (c.args.offset + c.args.distance) c.args.most
    (length c.read_there.new.buffer) c.if-most-eq0.false long
    c.in_err-there.ensures.runs in
    search (rules, h)

pub returns-clause-runs : goal.returns-clause-runs
returns-clause-runs g c =
    let long : length c.read_there.new.buffer ≡ c.args.most = search rules in
    rw (c.extend.ensures, c.new-piece.ensures)
    (piece_some (c.args.offset + c.args.distance) c.args.most (length c.read_there.new.buffer) c.if-most-eq0.false
    long c.in_ok-there.ensures.runs)
