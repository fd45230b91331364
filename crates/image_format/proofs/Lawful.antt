-- Whatever bytes are an image, it is lawful.
use Rattle.std.proofs.Common.{◌≡◌, ◌==◌, ℕ, zero, suc, ◌+◌, ◌*◌, ◌≤◌, Bool, true, false, cond, ltb, leb, ◌&&◌, List, length, Result, Ok, Err, refl, ap, arith}
use Rattle.std.specs.Prelude.{IfOk, IsTrue}
use Rattle.std.specs.Int.{Width, w8, w16, w32, w64}
use Rattle.std.specs.List.{AllByRecursion}
use Rattle.std.proofs.lemmas.Bool.{eqb-false, ltb-false, leb-true, and_parts}
use Rattle.std.proofs.lemmas.List.{length-take}
use Rattle.std.proofs.lemmas.List.Elements.{All-from_recursion}
use Rattle.svm_model.specs.Formats.Image.{Image, ImageGuest, ImageFault}
use Rattle.svm_model.specs.Formats.ImageBytes.{segment_in, many_in, guest_in, image_in, image_limit, image_of, IsLawfulVcpu}
use Rattle.svm_model.specs.Formats.ImageFields.{Source, ◌>>=◌, bytes_in, number_in, judged, bounded, zero_in, zeros_in, magic_in, features_in, root_in, linear_in, flags_in, is_root, are_flags}
use Rattle.svm_model.specs.Formats.ImageVcpus.{table_register, start_tr, vcpu_in}
use Rattle.svm_model.specs.Formats.LawfulImages.{IsLawfulSegment, IsLawfulGuest, IsLawfulImage}
use Rattle.svm_model.specs.Memory.RegisterFile.{is_canonical}
use Rattle.svm_model.specs.declared.register_file.Registers.{Registers}
use Rattle.svm_model.specs.declared.formats.ImageReason.{ImageReason}
use Rattle.svm_model.specs.declared.formats.ImageReason.TheVariants.{Version, Count, Zero, Feature, Register, Range, Trailing}
use Rattle.image_format.specs.declared.refusal.ImageRefusal.{ImageRefusal}
use Rattle.image_format.specs.Reading.{GivesImage}

-- what a step gives has a property if what follows a good value always does
then : {A B : Type 0} (P : A → Type 0) (Q : B → Type 0) (r : Result A ImageFault) (f : A → Result B ImageFault) → IfOk r P → ((x : A) → P x → IfOk (f x) Q) → IfOk (r >>= f) Q
then P Q (Ok x) f p q = q x p
then P Q (Err fault) f p q = tt

-- what passed a test
passes : {A : Type 0} (s : Source) (reason : ImageReason) (good : Bool) (x : A) (Q : A → Type 0) → (good ≡ true → Q x) → IfOk (judged s reason good x) Q
passes s reason true x Q h = h refl
passes s reason false x Q h = tt

either : {A : Type 0} (long : Bool) (fault : ImageFault) (r : Result A ImageFault) (Q : A → Type 0) → IfOk r Q → IfOk (cond long (Err fault) r) Q
either true fault r Q h = tt
either false fault r Q h = h

-- a step whose value says nothing
skip : {A B : Type 0} (Q : B → Type 0) (r : Result A ImageFault) (f : A → Result B ImageFault) → ((x : A) → IfOk (f x) Q) → IfOk (r >>= f) Q
skip Q (Ok x) f q = q x
skip Q (Err fault) f q = tt

abbrev IsWithin : ℕ → ℕ → ℕ → Type 0
IsWithin low high n = (low ≤ n) × (n ≤ high)

both : (low n m high : ℕ) → (leb low n && leb m high) ≡ true → (low ≤ n) × (m ≤ high)
both low n m high good = let p = and_parts (leb low n) (leb m high) good in (leb-true _ _ p.0, leb-true _ _ p.1)

bounds : (w : Width) (low high : ℕ) (reason : ImageReason) (s : Source) → IfOk (bounded w low high reason s) (λ n. IsWithin low high n.0)
bounds w low high reason s =
    skip (λ n. IsWithin low high n.0) (number_in w s) _ (λ n. passes s reason (leb low n.0 && leb n.0 high) n _ (both low n.0 n.0 high))

chosen : {A : Type 0} (short : Bool) (fault : ImageFault) (x : A) (Q : A → Type 0) → (short ≡ false → Q x) → IfOk (cond short (Err fault) (Ok x)) Q
chosen true fault x Q h = tt
chosen false fault x Q h = h refl

sized : (count : ℕ) (s : Source) → IfOk (bytes_in count s) (λ bytes. length bytes.0 ≡ count)
sized count s =
    chosen (ltb (length s.rest) count) _ _ (λ bytes. length bytes.0 ≡ count) (λ long. omega (arith, ltb-false (length s.rest) count long, length-take count s.rest))

all_many : {A : Type 0} (P : A → Type 0) (one : Source → Result (A × Source) ImageFault) → ((s : Source) → IfOk (one s) (λ x. P x.0)) → (count : ℕ) (s : Source)
    → IfOk (many_in one count s) (λ xs. (length xs.0 ≡ count) × AllByRecursion P xs.0)
unfolding many_in
all_many P one h zero s = (refl, tt)
all_many P one h (suc count) s =
    then (λ x. P x.0) (λ xs. (length xs.0 ≡ suc count) × AllByRecursion P xs.0) (one s) _ (h s) (λ first p.
    then (λ xs. (length xs.0 ≡ count) × AllByRecursion P xs.0) (λ xs. (length xs.0 ≡ suc count) × AllByRecursion P xs.0) (many_in one count first.1) _ (all_many P one h count first.1) (λ others q. (ap suc q.0, (p, q.1))))

segment_is : (pages : ℕ) (s : Source) → IfOk (segment_in pages s) (λ x. IsLawfulSegment pages x.0)
unfolding segment_in
segment_is pages s =
    skip (λ x. IsLawfulSegment pages x.0) (number_in w64 s) _ (λ address.
    skip (λ x. IsLawfulSegment pages x.0) (number_in w32 address.1) _ (λ size.
    then (λ fit. (1 ≤ fit.0) × (address.0 + fit.0 ≤ 4096 * pages)) (λ x. IsLawfulSegment pages x.0) (judged s Range (leb 1 size.0 && leb (address.0 + size.0) (4096 * pages)) size) _
    (passes s Range (leb 1 size.0 && leb (address.0 + size.0) (4096 * pages)) size _ (both 1 size.0 (address.0 + size.0) (4096 * pages))) (λ fit h.
    skip (λ x. IsLawfulSegment pages x.0) (zero_in w32 fit.1) _ (λ pad.
    then (λ bytes. length bytes.0 ≡ fit.0) (λ x. IsLawfulSegment pages x.0) (bytes_in fit.0 pad.1) _ (sized fit.0 pad.1) (λ bytes e.
    record { some = rw e h.0; within = rw e h.1 })))))

-- a number that passed a test, and what is left behind it
checked : (s : Source) (reason : ImageReason) (test : ℕ → Bool) → IfOk (number_in w64 s >>= λ n. judged s reason (test n.0) n) (λ n. IsTrue (test n.0))
checked s reason test =
    skip (λ n. IsTrue (test n.0)) (number_in w64 s) _ (λ n. passes s reason (test n.0) n (λ x. IsTrue (test x.0)) (λ good. good))

vcpu_is : (s : Source) → IfOk (vcpu_in s) (λ x. IsLawfulVcpu x.0)
unfolding vcpu_in
vcpu_is s =
    let Q : Registers × Source → Type 0 = λ x. IsLawfulVcpu x.0 in
    then (λ n. IsTrue (is_root n.0)) Q (root_in s) _ (checked s Register is_root) (λ cr3 a.
    then (λ n. IsTrue (is_canonical n.0)) Q (linear_in cr3.1) _ (checked cr3.1 Register is_canonical) (λ rip b.
    then (λ n. IsTrue (is_canonical n.0)) Q (linear_in rip.1) _ (checked rip.1 Register is_canonical) (λ rsp d.
    then (λ n. IsTrue (are_flags n.0)) Q (flags_in rsp.1) _ (checked rsp.1 Register are_flags) (λ rflags e.
    then (λ n. IsTrue (is_canonical n.0)) Q (linear_in rflags.1) _ (checked rflags.1 Register is_canonical) (λ gdtr f.
    then (λ n. IsTrue (is_canonical n.0)) Q (linear_in gdtr.1) _ (checked gdtr.1 Register is_canonical) (λ idtr h.
    then (λ n. IsTrue (is_canonical n.0)) Q (linear_in idtr.1) _ (checked idtr.1 Register is_canonical) (λ tr k.
    skip Q (number_in w16 tr.1) _ (λ gdtr_limit.
    skip Q (number_in w16 gdtr_limit.1) _ (λ idtr_limit.
    skip Q (number_in w16 idtr_limit.1) _ (λ tr_limit.
    skip Q (zero_in w16 tr_limit.1) _ (λ pad.
    record {
      start = record {
        cr3 = cr3.0;
        rip = rip.0;
        rsp = rsp.0;
        rflags = rflags.0;
        gdtr = table_register gdtr.0 gdtr_limit.0;
        idtr = table_register idtr.0 idtr_limit.0;
        tr = start_tr tr.0 tr_limit.0;
      };
      starts = refl;
      lawful = record {
        root = a;
        rip = b;
        rsp = d;
        rflags = e;
        gdtr = (gdtr.0, gdtr_limit.0, refl, f);
        idtr = (idtr.0, idtr_limit.0, refl, h);
        tr = (tr.0, tr_limit.0, refl, k);
      };
    })))))))))))

guest_is : (s : Source) → IfOk (guest_in s) (λ x. IsLawfulGuest x.0)
unfolding guest_in
guest_is s =
    let Q : ImageGuest × Source → Type 0 = λ x. IsLawfulGuest x.0 in
    then (λ count. IsWithin 1 8 count.0) Q (bounded w8 1 8 Count s) _ (bounds w8 1 8 Count s) (λ count a.
    skip Q (zeros_in count.1) _ (λ zeros.
    then (λ pages. IsWithin 1 16384 pages.0) Q (bounded w32 1 16384 Count zeros.1) _ (bounds w32 1 16384 Count zeros.1) (λ pages b.
    then (λ parts. IsWithin 0 4096 parts.0) Q (bounded w32 0 4096 Count pages.1) _ (bounds w32 0 4096 Count pages.1) (λ parts d.
    skip Q (zero_in w32 parts.1) _ (λ pad.
    then (λ vcpus. (length vcpus.0 ≡ count.0) × AllByRecursion IsLawfulVcpu vcpus.0) Q (many_in vcpu_in count.0 pad.1) _ (all_many IsLawfulVcpu vcpu_in vcpu_is count.0 pad.1) (λ vcpus e.
    then (λ segments. (length segments.0 ≡ parts.0) × AllByRecursion (IsLawfulSegment pages.0) segments.0) Q (many_in (segment_in pages.0) parts.0 vcpus.1) _ (all_many (IsLawfulSegment pages.0) (segment_in pages.0) (segment_is pages.0) parts.0 vcpus.1) (λ segments f.
    record {
      some_pages = b.0;
      most_pages = b.1;
      some_vcpus = rw e.0 a.0;
      most_vcpus = rw e.0 a.1;
      vcpus = All-from_recursion IsLawfulVcpu vcpus.0 e.1;
      most_segments = rw f.0 d.1;
      segments = All-from_recursion _ segments.0 f.1;
    })))))))

-- the features of a version, chosen by a test whether it is the first
abbrev AreFeatures : ℕ → ℕ → Type 0
AreFeatures version features = (features ≤ 1) × (version ≡ 1 → features ≡ 0)

by_version : (first : Bool) (version : ℕ) (s : Source) → (version == 1) ≡ first → IfOk (cond first (zero_in w32 s) (bounded w32 0 1 Feature s)) (λ n. AreFeatures version n.0)
by_version true version s e =
    skip (λ n. AreFeatures version n.0) (number_in w32 s) _ (λ n.
    passes s Zero (leb 0 n.0 && leb n.0 0) n (λ n. AreFeatures version n.0) (λ good.
    let within = both 0 n.0 n.0 0 good in (omega (arith, within.1), λ _. omega (arith, within.1))))
by_version false version s e =
    skip (λ n. AreFeatures version n.0) (number_in w32 s) _ (λ n.
    passes s Feature (leb 0 n.0 && leb n.0 1) n (λ n. AreFeatures version n.0) (λ good.
    ((both 0 n.0 n.0 1 good).1, λ one. absurd (eqb-false version 1 e one))))

features_are : (version : ℕ) (s : Source) → IfOk (features_in version s) (λ n. AreFeatures version n.0)
features_are version s = by_version (version == 1) version s refl

image_is : (s : Source) → IfOk (image_in s) IsLawfulImage
unfolding image_in
image_is s =
    skip IsLawfulImage (magic_in s) _ (λ magic.
    then (λ version. IsWithin 1 2 version.0) IsLawfulImage (bounded w16 1 2 Version magic.1) _ (bounds w16 1 2 Version magic.1) (λ version a.
    then (λ count. IsWithin 1 4 count.0) IsLawfulImage (bounded w8 1 4 Count version.1) _ (bounds w8 1 4 Count version.1) (λ count b.
    then (λ cpus. IsWithin 1 8 cpus.0) IsLawfulImage (bounded w8 1 8 Count count.1) _ (bounds w8 1 8 Count count.1) (λ cpus d.
    then (λ features. AreFeatures version.0 features.0) IsLawfulImage (features_in version.0 cpus.1) _ (features_are version.0 cpus.1) (λ features f.
    then (λ guests. (length guests.0 ≡ count.0) × AllByRecursion IsLawfulGuest guests.0) IsLawfulImage (many_in guest_in count.0 features.1) _ (all_many IsLawfulGuest guest_in guest_is count.0 features.1) (λ guests e.
    passes guests.1 Trailing _ _ IsLawfulImage (λ _.
    record {
      first_version = a.0;
      last_version = a.1;
      features = f.0;
      none_in_first = f.1;
      some_cpus = d.0;
      most_cpus = d.1;
      some_guests = rw e.0 b.0;
      most_guests = rw e.0 b.1;
      guests = All-from_recursion IsLawfulGuest guests.0 e.1;
    })))))))

pub image_of-lawful : (bytes : List ℕ) → IfOk (image_of bytes) IsLawfulImage
unfolding image_of
image_of-lawful bytes = either (ltb image_limit (length bytes)) _ _ IsLawfulImage (image_is (record { place = 0; rest = bytes }))

-- what the code answers is what the definition gives
pub GivesImage-lawful : (bytes : List ℕ) (r : Result Image ImageRefusal) → GivesImage r (image_of bytes) → IfOk r IsLawfulImage
GivesImage-lawful bytes (Ok image) given = rw given at (image_of-lawful bytes)
GivesImage-lawful bytes (Err refusal) given = tt
