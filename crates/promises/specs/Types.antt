-- A function's type as the source and include/msar.h write it: how many lifetimes, its parameters, its result. The statements name the types, since
-- `u8` and `usize`, or `&[f64]` and `&[f64; 100]`, have the same values in the logic and a narrower one asks more of a caller.
use Rattle.std.specs.Prelude.{ℕ, List, []}
use contract.Lifetimes.{Within}
use denote.Builtin.{unit, f64, usize, u8, SliceRef, SliceRefMut, Ref, RefMut, Array}
use denote.Exit.{yes}
use Rattle.std.specs.Borrow.{RattleType}
use denote.Signature.{Slot, plain, named_lft}
use denote.Triple.Clauses.{Ended}
use denote.Triple.End.{all}
use Rattle.refusal.specs.contracts.Refusal as refusal-Refusal
use Rattle.spec.specs.contracts.MsarSpec as spec-MsarSpec
use Rattle.linsolve.specs.contracts.Unsolved as linsolve-Unsolved
use Rattle.std.specs.contracts.result.Result as std-Result
use Rattle.params.specs.contracts.MsarParams as params-MsarParams
use Rattle.binding.specs.contracts.Bound as binding-Bound
use Rattle.fit.specs.contracts.Fitted as fit-Fitted
use Rattle.record.specs.contracts.MarkovSwitchingAr as markov-MarkovSwitchingAr
use Rattle.record.specs.contracts.Made as record-Made
use Rattle.text_decimal_write.specs.contracts.Written as decimal-Written

-- a function with n lifetimes, these parameters and this result
abbrev pub fn : (n : ℕ) → List (Slot n) → Slot n → Ended
fn n params result = record { signature = record { lifetimes = n; outlives = []; params = params; result = result }; kept = all yes params }

module _ {n : ℕ} where
  -- T, by value
  abbrev pub value : RattleType → Slot n
  value T = plain (λ κs. T)

  -- [f64; m], by value
  abbrev pub table : ℕ → Slot n
  table m = plain (λ κs. Array f64 tt m)

  -- behind a reference of the lifetime numbered j, which is below n
  module _ (j : ℕ) (ok : Within n j) where
    -- &[f64] and &mut [f64], &[u8]
    abbrev pub reals : Slot n
    reals = SliceRef j ok f64 tt

    abbrev pub reals_mut : Slot n
    reals_mut = SliceRefMut j ok f64 tt

    abbrev pub bytes : Slot n
    bytes = SliceRef j ok u8 tt

    -- &[f64; m] and &mut [f64; m], &[usize; m] and &mut [usize; m]
    abbrev pub real_array : ℕ → Slot n
    real_array m = Ref j ok (Array f64 tt m) tt

    abbrev pub real_array_mut : ℕ → Slot n
    real_array_mut m = RefMut j ok (Array f64 tt m) tt

    abbrev pub whole_array : ℕ → Slot n
    whole_array m = Ref j ok (Array usize tt m) tt

    abbrev pub whole_array_mut : ℕ → Slot n
    whole_array_mut m = RefMut j ok (Array usize tt m) tt

    -- MarkovSwitchingAr<'j> and Made<'j>, by value
    abbrev pub model : Slot n
    model = plain (λ κs. markov-MarkovSwitchingAr.the_row (named_lft n j ok κs))

    abbrev pub made : Slot n
    made = plain (λ κs. record-Made.the_row (named_lft n j ok κs))

-- ---- the library's structs and enums

abbrev pub Refusal : RattleType
Refusal = refusal-Refusal.the_row

-- Result<T, Refusal>
abbrev pub refusable : RattleType → RattleType
refusable T = std-Result.the_row T Refusal

-- what checks alone find: Result<(), Refusal>
abbrev pub Check : RattleType
Check = refusable unit

abbrev pub MsarSpec : RattleType
MsarSpec = spec-MsarSpec.the_row

-- Result<[f64; 16], Unsolved>
abbrev pub Solution : RattleType
Solution = std-Result.the_row (Array f64 tt 16) linsolve-Unsolved.the_row

abbrev pub MsarParams : RattleType
MsarParams = params-MsarParams.the_row

-- sixteen numbers: [f64; 16]
abbrev pub Sixteen : RattleType
Sixteen = Array f64 tt 16

abbrev pub Bound : RattleType
Bound = binding-Bound.the_row

abbrev pub Fitted : RattleType
Fitted = fit-Fitted.the_row

-- Result<f64, usize>
abbrev pub NumberOrPlace : RattleType
NumberOrPlace = std-Result.the_row f64 usize

abbrev pub Written : RattleType
Written = decimal-Written.the_row
