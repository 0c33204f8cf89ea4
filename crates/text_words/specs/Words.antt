-- Where the words of a line stand: a word begins past the blanks, and ends before the next blank or comment.
use Rattle.std.specs.Prelude.{ℕ, ◌+◌, ◌≤◌, Bool, not, ◌&&◌, ◌||◌, List, eqb, drop, length, take_while}
use Rattle.std.proofs.Common.{arith}
use Rattle.text_words.specs.declared.place.Span.{Span}

-- space, tab, carriage return
abbrev pub is_blank : ℕ → Bool
is_blank c = eqb c 32 || eqb c 9 || eqb c 13

-- no blank and no `#`
abbrev pub in_word : ℕ → Bool
in_word c = not (is_blank c) && not (eqb c 35)

-- the first place from this one on whose element fails the test, or the list's end
abbrev pub past : (ℕ → Bool) → List ℕ → ℕ → ℕ
past p xs from = from + length (take_while p (drop from xs))

pub onwards : (p : ℕ → Bool) (xs : List ℕ) (from : ℕ) → from ≤ past p xs from
onwards p xs from = omega arith

-- the word from this place on
abbrev pub word_from : List ℕ → ℕ → Span
word_from line from =
    let start = past is_blank line from in
    record { start = start; end = past in_word line start; ordered = onwards in_word line start }
