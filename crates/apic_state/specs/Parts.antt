-- The registers of an APIC, all but its ID.
use Rattle.std.specs.Prelude.{◌≡◌, ℕ, ◌%◌, ◌^◌, ◌<◌, ◌⊎◌, List, slice_index, bit_and}
use Rattle.svm_model.specs.Machine.Apic.{Apic}
use Rattle.svm_model.specs.Machine.ApicRegisters.{lvt_mask}
use Rattle.svm_model.specs.declared.apics.ApicParts.{ApicParts}

unfoldable pub parts_of : Apic → ApicParts
parts_of a = record {
  tpr = a.tpr;
  ldr = a.ldr;
  dfr = a.dfr;
  svr = a.svr;
  icr_low = a.icr_low;
  icr_high = a.icr_high;
  lvt = a.lvt;
  count = a.count;
  divide = a.divide;
  start = a.start;
  isr = a.isr;
  irr = a.irr;
}

unfoldable pub of_parts : ℕ → ApicParts → Apic
of_parts id p = record {
  id = id;
  tpr = p.tpr;
  ldr = p.ldr;
  dfr = p.dfr;
  svr = p.svr;
  icr_low = p.icr_low;
  icr_high = p.icr_high;
  lvt = p.lvt;
  count = p.count;
  divide = p.divide;
  start = p.start;
  isr = p.isr;
  irr = p.irr;
}

-- a set with no vector below 16
pub record HasNoLow (set : List ℕ) : Type 0 where
  pub first : slice_index set 0 ≡ 0
  pub second : slice_index set 1 ≡ 0

-- a local vector table that holds only what a write keeps
pub record AreEntries (lvt : List ℕ) : Type 0 where
  pub kept : (number : ℕ) → number < 6 → bit_and (slice_index lvt number) (lvt_mask number) ≡ slice_index lvt number

-- registers that hold only what a write keeps, and no vector below 16
pub record AreKept (dfr svr icr_high divide : ℕ) (lvt isr irr : List ℕ) : Type 0 where
  pub model : (dfr ≡ 0) ⊎ (dfr ≡ 15)
  pub spurious : svr < 2 ^ 9
  pub command : icr_high % 2 ^ 24 ≡ 0
  pub divides : bit_and divide 11 ≡ divide
  pub entries : AreEntries lvt
  pub in_service : HasNoLow isr
  pub requested : HasNoLow irr

abbrev pub AreParts : ApicParts → Type 0
AreParts p = AreKept p.dfr p.svr p.icr_high p.divide p.lvt p.isr p.irr
