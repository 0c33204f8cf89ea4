-- A call's checks, one after another as the code makes them, and what an admitted call's counts are. Assumes nothing.
use Rattle.std.specs.Prelude.{Ok, Err}
use Prim.Native.Nat.{ℕ, suc, ◌+◌, ◌-◌, ◌*◌, ◌^◌, ◌<◌, ◌≤◌}
use mathlib.Core.Path.{◌≡◌, refl, sym, ap, subst, ◌∙◌}
use mathlib.Core.List.{List}
use native.Mathlib.Omega.{arith}
use borrow.Author.Tests.{ltb-false}
use lib.ListN.{length}
use lib.Ieee.{Float}
use Rattle.refusal.specs.Checks.{Check, Passed, Failed, ◌before◌}
use Rattle.refusal.specs.declared.Refusal.{Refusal}
use Rattle.refusal.proofs.Checks.{untrue, before_assoc, before_err}
use Rattle.spec.specs.declared.MsarSpec.{MsarSpec}
use Rattle.window.specs.Shape.{Shape}
use Rattle.params.specs.declared.MsarParams.{MsarParams}
use Rattle.params.specs.Parameters.{k, p}
use Rattle.rows.specs.Rows.{windows_of}
use Rattle.binding.specs.Binding.{bound_check, bound_of, filter_need, smooth_need, table_need, memory_check, rule_check, params_check, admitted_check}
use Rattle.binding.specs.declared.Bound.{Bound}
use Rattle.binding.proofs.Passed.{fitting, same_shape, bound_passed, rows_are, windows_are}

-- memory that is lent and long enough
pub long_enough : (lent needed : ℕ) → memory_check lent needed ≡ Passed → needed ≤ lent
long_enough lent needed e = ltb-false _ _ (untrue _ _ e)

module _ (S : MsarSpec) (y : List Float) where
  -- ---- refused by the series

  pub series_refused : (q : MsarParams) (own : Check) {r : Refusal} → bound_of S y ≡ Err r → admitted_check S y own q ≡ Failed r
  unfolding bound_of admitted_check
  series_refused q own e = rw (before_err (bound_check S y) _ e)

  module _ {b : Bound} (e : bound_of S y ≡ Ok b) where
    -- ---- refused by what comes behind it: the call's own check, or the rule and the parameters

    module _ (q : MsarParams) (own : Check) where
      pub own_refused : {r : Refusal} → own ≡ Failed r → admitted_check S y own q ≡ Failed r
      unfolding admitted_check
      own_refused d = rw (bound_passed S y e, d)

      pub params_refused : own ≡ Passed → {r : Refusal} → params_check S q ≡ Failed r → admitted_check S y own q ≡ Failed r
      unfolding admitted_check
      params_refused d f = rw (bound_passed S y e, d) f

      pub all_passed : own ≡ Passed → params_check S q ≡ Passed → admitted_check S y own q ≡ Passed
      unfolding admitted_check
      all_passed d f = rw (bound_passed S y e, d) f

    -- the same where the rule is checked too, behind the call's memory
    module _ (q : MsarParams) (rule : ℕ) (memory : Check) where
      pub memory_refused : {r : Refusal} → memory ≡ Failed r → admitted_check S y (memory before rule_check rule) q ≡ Failed r
      memory_refused d = own_refused q (memory before rule_check rule) (rw d)

      pub asked_refused : memory ≡ Passed → {r : Refusal} → (rule_check rule before params_check S q) ≡ Failed r → admitted_check S y (memory before rule_check rule) q ≡ Failed r
      unfolding admitted_check
      asked_refused d f = rw (bound_passed S y e, d) f

      pub asked_passed : memory ≡ Passed → (rule_check rule before params_check S q) ≡ Passed → admitted_check S y (memory before rule_check rule) q ≡ Passed
      unfolding admitted_check
      asked_passed d f = rw (bound_passed S y e, d) f

    -- ---- what the code finds for its memory is what the definition asks

    pub cells_are : b.rows * b.windows ≡ (length y - S.order) * S.k_regimes ^ suc S.order
    cells_are = rw (rows_are S y e, windows_are S y e)

    pub table_is : b.rows * S.k_regimes ≡ table_need S y
    table_is = rw (rows_are S y e)

    -- work memory, by call
    pub filter_need_is : {need : ℕ} → need ≡ b.rows * b.windows + 256 → need ≡ filter_need S y
    filter_need_is h = h ∙ ap (λ (x : ℕ). x + 256) cells_are

    pub smooth_need_is : {need : ℕ} → need ≡ 2 * (b.rows * b.windows) → need ≡ smooth_need S y
    smooth_need_is h = h ∙ ap (λ (x : ℕ). 2 * x) cells_are

    -- the memory checks, as the code makes them
    module _ {need needed : ℕ} (d : need ≡ needed) (work : ℕ) where
      pub work_checked : {c : Check} → memory_check work need ≡ c → memory_check work needed ≡ c
      work_checked {c} h = subst (λ (x : ℕ). memory_check work x ≡ c) d h

      pub table_checked : (table : ℕ) {c : Check} → (memory_check work need before memory_check table (b.rows * S.k_regimes)) ≡ c
          → (memory_check work needed before memory_check table (table_need S y)) ≡ c
      table_checked table {c} h =
          subst (λ (x : ℕ). (memory_check work needed before memory_check table x) ≡ c) table_is
          (subst (λ (x : ℕ). (memory_check work x before memory_check table (b.rows * S.k_regimes)) ≡ c) d h)

      -- of two tables, the first with work memory
      module _ (first second : ℕ) where
        both_are : (memory_check work needed before memory_check first (table_need S y) before memory_check second (table_need S y))
            ≡ ((memory_check work needed before memory_check first (table_need S y)) before memory_check second (table_need S y))
        both_are = sym (before_assoc (memory_check work needed) _ _)

        pub first_refused : {r : Refusal} → (memory_check work need before memory_check first (b.rows * S.k_regimes)) ≡ Failed r
            → (memory_check work needed before memory_check first (table_need S y) before memory_check second (table_need S y)) ≡ Failed r
        first_refused h = both_are ∙ ap (λ (x : Check). x before memory_check second (table_need S y)) (table_checked first h)

        pub second_checked : {c : Check} → (memory_check work need before memory_check first (b.rows * S.k_regimes)) ≡ Passed → memory_check second (b.rows * S.k_regimes) ≡ c
            → (memory_check work needed before memory_check first (table_need S y) before memory_check second (table_need S y)) ≡ c
        second_checked {c} h g =
            both_are ∙ ap (λ (x : Check). x before memory_check second (table_need S y)) (table_checked first h)
            ∙ subst (λ (x : ℕ). memory_check second x ≡ c) table_is g

    -- ---- an admitted call

    module _ (q : MsarParams) where
      pub record Admitted : Type 0 where
        pub shape : Shape (k q) (p q)
        pub windows_are_of : b.windows ≡ windows_of q
        pub rows_of : p q + b.rows ≡ length y
        pub some : 0 < b.rows
        pub short : length y ≤ 4096
        pub filter_need_lem : b.rows * b.windows + 256 ≡ filter_need S y
        pub smooth_need_lem : 2 * (b.rows * b.windows) ≡ smooth_need S y
        pub table_need_lem : b.rows * k q ≡ table_need S y

      pub is_admitted : params_check S q ≡ Passed → Admitted
      is_admitted d =
          let s = same_shape S q d in
          let f = fitting S y e in
          let n = rows_are S y e in
          record {
            shape = subst (λ (x : ℕ). Shape (k q) x) (sym s.1) (subst (λ (x : ℕ). Shape x S.order) (sym s.0) f.shape);
            windows_are_of = windows_are S y e ∙ ap (λ (x : ℕ). x ^ suc S.order) (sym s.0) ∙ ap (λ (x : ℕ). k q ^ suc x) (sym s.1);
            rows_of = omega (arith, n, s.1, f.longer);
            some = omega (arith, n, f.longer);
            short = f.short;
            filter_need_lem = filter_need_is refl;
            smooth_need_lem = smooth_need_is refl;
            table_need_lem = ap (λ (x : ℕ). b.rows * x) s.0 ∙ table_is;
          }
