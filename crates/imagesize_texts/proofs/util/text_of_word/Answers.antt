use Rattle.std.proofs.Common.{sym}
use Rattle.imagesize_texts.proofs.Words.{hash_text}
use Rattle.imagesize_texts.proofs.util.text_of_word.Goals as goal

pub returns-then-is_hash : goal.returns-then-is_hash
returns-then-is_hash c = sym (hash_text c.args.bytes.now (c.is_hash.ensures c.if-is_hash.true))
