-- The buffer has 16,384 bytes.
use Rattle.std.proofs.Common.{arith, ap, ℕ, ◌≡◌, ◌++◌, length, take, ◌∙◌}
use Rattle.msar_say.specs.SoFar.{bytes_so_far}
use Rattle.msar_say.proofs.put.Text.bytes.Goals as goal

pub returns : goal.returns
returns c =
    let room : length c.args.self.now.bytes ≡ 16384 = omega arith in
    c.put-self.ensures.so_far ∙ ap (λ (i : ℕ). take i (bytes_so_far c.args.self.now ++ c.args.text.now)) room
