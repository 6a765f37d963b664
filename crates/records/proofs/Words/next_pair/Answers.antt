use Rattle.std.proofs.Common.{◌≡◌, ◌+◌, ◌*◌, ◌^◌, ◌%◌, ◌<◌, ◌∙◌, rules, arith, ap, bit_or, ℕ}
use Rattle.std.proofs.lemmas.Nat.{or_shifted}
use Rattle.records.proofs.Bytes.{second_word}
use Rattle.records.proofs.Words.next_pair.Goals as goal

pair_is : (low high : ℕ) → low < 2 ^ 32 → high < 2 ^ 32 → bit_or (high * 2 ^ 32 % 2 ^ 64) low ≡ low + 2 ^ 32 * high
pair_is low high l h =
    let whole : high * 2 ^ 32 % 2 ^ 64 ≡ high * 2 ^ 32 = omega arith in
    ap (λ x. bit_or x low) whole ∙ (or_shifted high 32 low l ∙ omega arith)

pub returns : goal.returns
returns c = record {
  answer = grind (arith, pair_is c.next_word-low.result c.next_word-high.result, second_word c.args.self.now.rest.now);
  left = search rules;
}
