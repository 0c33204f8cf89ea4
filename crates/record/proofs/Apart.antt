-- What each method over a `MarkovSwitchingAr` cites: what the record owns beside the other parameters is what a plain call asks, of the spec, the series and the same others, whatever they are.
--     args         alive ∗ owns (the record, xs)  ⊢  (alive ∗ owns (its spec, its series, xs)) ∗ emp
--     the_check, the_model     what a `Made` owns is what its check owns, or its record
--     to_new, to_method        of a function that makes the record and passes it on with xs: what it has at entry is what `new` asks, and the rest; and what the record that `new` gives owns, with the rest, is what the method asks
-- Assumes `Logic`.
use mathlib.Core.Path.{◌≡◌, refl}
use mathlib.Core.List.{List, [], ◌∷◌}
use lib.Ieee.{Float}
use lib.ListN.{length}
use seplogic.Ra.Ura.{Ura}
use mir.Val.{Val}
use base.Logic.{SProp, ent, sep, emp}
use base.Fml.{Fml}
use types.Logic.{Logic, sem}
use types.Kit.{‵, raw, ◌⊛◌, given, ◌$◌, ◌∵◌, !, qed, move, drop, use1, learn, split, join, fsplit, fjoin, frame, done}
use denote.RattleType.{RattleType, Denots, Valss, owns}
use denote.Builtin.{f64, unit}
use denote.Ref.{Bor, NamedLft}
use denote.Slice.{slice_val, ShrSlice}
use denote.Steps.{nothing}
use denote.Enum.Laws as EL
use denote.Param.Laws.{of_field, field_told}
use denote.Param.Shared.{copy_shared}
use denote.Struct.Field.{unit-field}
use denote.Struct.Laws.{unit-laws, unit-copy}
use denote.Struct.Laws as LL
use denote.Struct.Rest.{all_own, own_open}
use Rattle.record.specs.declared.MarkovSwitchingAr.{MarkovSwitchingAr}
use Rattle.record.specs.declared.Made.{Made}
use Rattle.record.specs.contracts.MarkovSwitchingAr as T
use Rattle.record.proofs.MarkovSwitchingAr.TheLaws as T'
use Rattle.record.specs.contracts.Made as O
use Rattle.record.proofs.Made.TheLaws as O'
use Rattle.std.specs.contracts.result.Result as E
use Rattle.std.proofs.result.Result.TheLaws as E'
use Rattle.refusal.specs.contracts.Refusal as F
use Rattle.refusal.proofs.Refusal.TheLaws as F'
use Rattle.spec.specs.declared.MsarSpec.{MsarSpec}
use Rattle.spec.specs.contracts.MsarSpec as S
use Rattle.spec.proofs.MsarSpec.TheLaws as S'

-- the machine values of the record, of its series and of its spec
abbrev pub mach : MarkovSwitchingAr → Val
mach d = T'.lowered d

abbrev pub v_series : MarkovSwitchingAr → Val
v_series d = slice_val d.series.ref_ptr (length d.series.now)

abbrev pub v_spec : MarkovSwitchingAr → Val
v_spec d = S'.lowered d.spec

-- the laws of what a check is, a `Result` of nothing or a `Refusal`, as those of `Made` have them
abbrev check_laws : EL.Laws (E.the_type unit F.the_row)
check_laws = E'.the_laws unit F.the_row (of_field unit-field unit-laws refl (copy_shared unit-field unit-copy)) F'.the_row_laws (field_told unit-field unit-laws) F'.the_told

module _ {M : Type 1} {𝓤 : Ura M} (𝓛 : Logic 𝓤) (α : NamedLft) (d : MarkovSwitchingAr) (Rs : List RattleType) (xs : Denots Rs) (vss : Valss Rs) where
  abbrev held : Fml
  held = owns (T.the_row α ∷ Rs) (d, xs) (mach d ∷ [], vss)

  abbrev asked : Fml
  asked = owns (S.the_row ∷ ShrSlice α.mir α.lft f64 ∷ Rs) (d.spec, (d.series, xs)) (v_spec d ∷ [], (v_series d ∷ [], vss))

  pub args : (P : SProp 𝓤) → ent 𝓤 (sep 𝓤 P (sem 𝓛 held)) (sep 𝓤 (sep 𝓤 P (sem 𝓛 asked)) (emp 𝓤))
  args P =
      qed 𝓛 (raw P ∷ ‵ held ∷ []) ∵ move ! (1 ∷ []) $ fsplit ! $
      use1 𝓛 (given (mach d ∷ [] ≡ mach d ∷ []) (‵ (all_own (T.the_type α).parts (T'.the_laws α) (d.series, (d.spec, tt))))) (own_open 𝓛 (T.the_type α) (T'.the_laws α) (d.series, (d.spec, tt)) (mach d)) $ learn ! (λ _. fsplit ! $
      -- [what series owns; what spec owns and true; the others; P]
      move ! (1 ∷ []) $ fsplit ! $ move ! (1 ∷ []) $ drop ! $ move ! (1 ∷ 2 ∷ []) $ fjoin ! $ move ! (1 ∷ 0 ∷ []) $ fjoin ! $ move ! (1 ∷ 0 ∷ []) $ join ! $ frame ! $ done !)

module _ {M : Type 1} {𝓤 : Ura M} (𝓛 : Logic 𝓤) (α : NamedLft) (o : Made) where
  abbrev v_made : Val
  v_made = LL.val (O.the_type α) (O'.the_laws α) o

  abbrev owned : Fml
  owned = (O.the_row α).own_val o (v_made ∷ [])

  abbrev both_owned : Fml
  both_owned = all_own (O.the_type α).parts (O'.the_laws α) (o.check, (o.model, tt))

  pub the_check : ent 𝓤 (sem 𝓛 owned) (sem 𝓛 ((E.the_row unit F.the_row).own_val o.check (EL.val (E.the_type unit F.the_row) check_laws o.check ∷ [])))
  the_check =
      qed 𝓛 (‵ owned ∷ []) ∵ use1 𝓛 (given (v_made ∷ [] ≡ v_made ∷ []) (‵ both_owned)) (own_open 𝓛 (O.the_type α) (O'.the_laws α) (o.check, (o.model, tt)) (v_made)) $
      learn ! (λ _. fsplit ! $ move ! (1 ∷ []) $ drop ! $ done !)

  pub the_model : ent 𝓤 (sem 𝓛 owned) (sem 𝓛 ((T.the_row α).own_val o.model (mach o.model ∷ [])))
  the_model =
      qed 𝓛 (‵ owned ∷ []) ∵ use1 𝓛 (given (v_made ∷ [] ≡ v_made ∷ []) (‵ both_owned)) (own_open 𝓛 (O.the_type α) (O'.the_laws α) (o.check, (o.model, tt)) (v_made)) $
      learn ! (λ _. fsplit ! $ drop ! $ fsplit ! $ move ! (1 ∷ []) $ drop ! $ done !)

module _ {M : Type 1} {𝓤 : Ura M} (𝓛 : Logic 𝓤) (α : NamedLft) (sp : MsarSpec) (s : Bor (List Float)) (Rs : List RattleType) (xs : Denots Rs) (vss : Valss Rs) (P Q : SProp 𝓤) where
  abbrev series_row : RattleType
  series_row = ShrSlice α.mir α.lft f64

  abbrev w : Val
  w = S'.lowered sp

  abbrev v : Val
  v = slice_val s.ref_ptr (length s.now)

  abbrev plains : Fml
  plains = owns (S.the_row ∷ series_row ∷ Rs) (sp, (s, xs)) (w ∷ [], (v ∷ [], vss))

  abbrev both : Fml
  both = owns (series_row ∷ S.the_row ∷ []) (s, (sp, tt)) (v ∷ [], (w ∷ [], tt))

  pub to_new : ent 𝓤 (sep 𝓤 (sep 𝓤 P Q) (sem 𝓛 plains)) (sep 𝓤 (sep 𝓤 (sep 𝓤 (sep 𝓤 P (emp 𝓤)) (sem 𝓛 both)) (emp 𝓤)) (sep 𝓤 Q (sem 𝓛 (owns Rs xs vss))))
  to_new =
      qed 𝓛 ((raw P ⊛ raw Q) ∷ ‵ plains ∷ []) ∵ move ! (1 ∷ []) $ fsplit ! $ move ! (1 ∷ []) $ fsplit ! $ move ! (3 ∷ []) $ split ! $
      -- [P; Q; series; the others; spec]
      nothing ! $ move ! (5 ∷ 0 ∷ []) $ fjoin ! $ move ! (3 ∷ 0 ∷ []) $ fjoin ! $ nothing ! $ move ! (2 ∷ 0 ∷ []) $ join ! $ move ! (0 ∷ 1 ∷ []) $ join ! $ nothing ! $ move ! (1 ∷ 0 ∷ []) $ join ! $ frame ! $ done !

  pub to_method : (m : MarkovSwitchingAr) (u : Val) → ent 𝓤 (sep 𝓤 (sep 𝓤 (sep 𝓤 P (emp 𝓤)) (sem 𝓛 ((T.the_row α).own_val m (u ∷ [])))) (sep 𝓤 Q (sem 𝓛 (owns Rs xs vss))))
      (sep 𝓤 (sep 𝓤 (sep 𝓤 P Q) (sem 𝓛 (owns (T.the_row α ∷ Rs) (m, xs) (u ∷ [], vss)))) (emp 𝓤))
  to_method m u =
      qed 𝓛 (((raw P ⊛ raw (emp 𝓤)) ⊛ ‵ ((T.the_row α).own_val m (u ∷ []))) ∷ (raw Q ⊛ ‵ (owns Rs xs vss)) ∷ []) ∵ split ! $ split ! $ move ! (1 ∷ []) $ drop ! $ move ! (2 ∷ []) $ split ! $
      -- [Q; the others; P; the record]
      move ! (3 ∷ 1 ∷ []) $ fjoin ! $ move ! (2 ∷ 1 ∷ []) $ join ! $ move ! (0 ∷ 1 ∷ []) $ join ! $ frame ! $ done !
