-- A text that is put behind the bytes before a place, as far as there is room.
use Rattle.std.specs.Prelude.{ℕ, ◌≡◌, ◌+◌, ◌-◌, ◌≤◌, List, ◌++◌, length, take, drop, min}
use Rattle.std.proofs.Common.{arith, ap, sym, ◌∙◌}
use Rattle.std.proofs.lemmas.List.{length-take-le, take_min}
use Rattle.std.proofs.lemmas.Slice.{take-put_mid, drop-put_mid}
use Rattle.std.proofs.Math.Seq.{take-append-add}
use borrow.Rule.Slice.PartMut.{put_mid}

-- xs is what stood there, and n bytes of the text, the piece, find room from `from` on
module _ (xs text piece : List ℕ) (from n k : ℕ) (fits : n ≡ min (length xs - from) (length text)) (n_places : k ≡ n) (is_piece : piece ≡ take n text) where
  piece_length : length piece ≡ n
  piece_length = ap length is_piece ∙ length-take-le n text (omega arith)

  pub so_far : (at : ℕ) → from ≡ min at (length xs) → take (from + n) (put_mid from k xs piece) ≡ take (length xs) (take at xs ++ text)
  so_far at begins =
      let within : from ≤ length xs = omega arith in
      let front : length (take from xs) ≡ from = length-take-le from xs within in
      take-put_mid from k xs piece (from + n) (omega (arith, piece_length)) within
      ∙ ap (λ (t : List ℕ). take from xs ++ t) (is_piece ∙ ap (λ (i : ℕ). take i text) fits ∙ take_min (length xs - from) text)
      ∙ sym (take-append-add (take from xs) text (length xs - from))
      ∙ ap (λ (i : ℕ). take i (take from xs ++ text)) (omega (arith, front, within))
      ∙ ap (λ (t : List ℕ). take (length xs) (t ++ text)) (ap (λ (i : ℕ). take i xs) begins ∙ take_min at xs)

  pub behind : from ≤ length xs → drop (from + n) (put_mid from k xs piece) ≡ drop (from + n) xs
  behind within = drop-put_mid from k xs piece (from + n) (omega arith) within (omega (arith, piece_length))
