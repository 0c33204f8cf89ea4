-- The spec of a model: k regimes and order p. Its window count m = k^(p + 1), or refusal 1, 2 or 3.
-- After document 01, "Bounds set by the port" and "Refusals by number".
use Rattle.std.specs.Prelude.{ℕ, suc, ◌^◌, Result, Ok}
use Rattle.number.specs.Number.{◌<?◌}
use Rattle.refusal.specs.Checks.{Check, ◌when◌, ◌before◌}
use Rattle.refusal.specs.declared.Refusal.TheVariants.{FewRegimes, ManyWindows, ManyRegimes}
use Rattle.refusal.specs.declared.Refusal.{Refusal}

-- 1, 2 and 3, in this order; each carries k
unfoldable pub spec_check : ℕ → ℕ → Check
spec_check k p =
    FewRegimes k when k <? 2
    before ManyWindows k when 256 <? k ^ suc p
    before ManyRegimes k when 16 <? k

-- the count m, where the check is passed
unfoldable pub window_count : ℕ → ℕ → Result ℕ Refusal
window_count k p = spec_check k p before Ok (k ^ suc p)
