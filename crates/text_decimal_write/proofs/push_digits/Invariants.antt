-- `text_decimal_write::push_digits` meets its contract: the highest digit first.
use Rattle.std.proofs.Common.{◌≡◌, ◌+◌, ◌++◌}
use Rattle.arrayvec.specs.ArrayVec.{array_vec_len}
use Rattle.text_decimal_write.specs.Decimals.{digits_text}
use Rattle.text_decimal_write.proofs.push_digits.Given as goal

abbrev pub invariant-loop-left : goal.invariant-loop-left
invariant-loop-left l = record {
  is : l.text.items ++ digits_text l.left l.v ≡ l.fn.text.items ++ digits_text l.n l.v;
  long : array_vec_len l.text + l.left ≡ array_vec_len l.fn.text + l.n;
}
