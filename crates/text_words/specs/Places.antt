-- How much of a lent buffer is text.
use Rattle.std.specs.Prelude.{ℕ, ◌≤◌, ◌≡◌, List, length, take}

-- n counts bytes at the start of xs. The second part follows from the first; a caller that lends `&buf[..n]` asks for both.
abbrev pub Leads : ℕ → List ℕ → Type 0
Leads n xs = (n ≤ length xs) × (n ≡ length (take n xs))
