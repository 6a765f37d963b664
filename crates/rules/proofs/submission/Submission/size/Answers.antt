use mathlib.Core.Path.{sym}
use Rattle.word.proofs.Bytes.{words_length}
use Rattle.rules.proofs.submission.Submission.size.Goals as goal

-- a word is four bytes
pub returns : goal.returns
returns c = sym (words_length c.args.self.now.words.now)
