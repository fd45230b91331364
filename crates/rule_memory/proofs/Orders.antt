-- The orders of the maps' keys tell all keys apart.
use Rattle.std.proofs.Common.{◌≡◌, ℕ, Bool, true, false, arith, sym, refl}
use Rattle.std.specs.declared.cmp.Ordering.{Ordering}
use Rattle.std.specs.declared.cmp.Ordering.TheVariants.{Less, Equal, Greater}
use Rattle.std.specs.Cmp.{nat_cmp_is}
use Rattle.std.specs.Ordering.{nat_cmp, bool_cmp, ordering_then, is_eq}
use Rattle.std.proofs.lemmas.Map.Lookups.{exact_unsigned}
use Rattle.rule_memory.specs.Kept.{spaces}
use Rattle.rule_memory.specs.declared.places.Space.{Space}

pub equal_from_is_eq : (o : Ordering) → is_eq o ≡ true → o ≡ Equal
equal_from_is_eq Less e = search e
equal_from_is_eq Equal e = refl
equal_from_is_eq Greater e = search e

then_first : (p q : Ordering) → ordering_then p q ≡ Equal → p ≡ Equal
then_first Less q e = e
then_first Equal q e = refl
then_first Greater q e = e

then_second : (p q : Ordering) → ordering_then p q ≡ Equal → q ≡ Equal
then_second Less q e = grind (arith, e)
then_second Equal q e = e
then_second Greater q e = grind (arith, e)

exact_bools : (a b : Bool) → bool_cmp a b ≡ Equal → a ≡ b
exact_bools true true e = refl
exact_bools false false e = refl
exact_bools true false e = grind (arith, e)
exact_bools false true e = grind (arith, e)

pub exact_numbers : (a b : ℕ) → nat_cmp a b ≡ Equal → a ≡ b
exact_numbers a b e = exact_unsigned a b e

pub exact_spaces : (a b : Space) → spaces a b ≡ Equal → a ≡ b
exact_spaces a b e =
    let guest = nat_cmp a.guest b.guest in
    let vcpu = nat_cmp a.vcpu b.vcpu in
    let asid = nat_cmp a.asid b.asid in
    let nested = bool_cmp a.nested b.nested in
    let rest = then_second guest (ordering_then vcpu (ordering_then asid nested)) e in
    let last = then_second vcpu (ordering_then asid nested) rest in
    let guest_is = exact_unsigned a.guest b.guest (then_first guest (ordering_then vcpu (ordering_then asid nested)) e) in
    let vcpu_is = exact_unsigned a.vcpu b.vcpu (then_first vcpu (ordering_then asid nested) rest) in
    let asid_is = exact_unsigned a.asid b.asid (then_first asid nested last) in
    let nested_is = exact_bools a.nested b.nested (then_second asid nested last) in
    λ i. record { guest = guest_is i; vcpu = vcpu_is i; asid = asid_is i; nested = nested_is i }

pub order_itself : (a : Space) → spaces a a ≡ Equal
order_itself a = rw (nat_cmp_itself a.guest) (rw (nat_cmp_itself a.vcpu) (rw (nat_cmp_itself a.asid) (bool_cmp_itself a.nested))) where
  nat_cmp_itself : (n : ℕ) → nat_cmp n n ≡ Equal
  nat_cmp_itself n = sym (nat_cmp_is n n Equal refl)

  bool_cmp_itself : (b : Bool) → bool_cmp b b ≡ Equal
  bool_cmp_itself true = refl
  bool_cmp_itself false = refl
