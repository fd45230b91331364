-- The generated image is lawful.
use Rattle.std.proofs.Common.{◌≡◌, ℕ, zero, suc, ◌+◌, ◌*◌, ◌≤◌, [], ◌∷◌, length, refl, arith, length-append}
use Rattle.std.specs.Prelude.{IsTrue}
use Rattle.std.specs.List.{flat_map, range_with_len}
use Rattle.std.proofs.lemmas.List.Elements.{All-from_recursion}
use Rattle.svm_model.specs.Formats.ImageBytes.{IsLawfulVcpu}
use Rattle.svm_model.specs.Formats.ImageVcpus.{start_tr, table_register}
use Rattle.svm_model.specs.Formats.LawfulImages.{IsLawfulSegment, IsLawfulGuest, IsLawfulImage}
use Rattle.svm_model.specs.Memory.RegisterFile.{is_canonical}
use Rattle.workload.specs.Generated.{size_limit, page_count, code_address, start_of, add_bytes, code_bytes, code_segment, made_guest, made_image}

-- a vcpu whose code is at a canonical address starts as an image may say
vcpu_is : (vcpu : ℕ) → IsTrue (is_canonical (code_address vcpu)) → IsLawfulVcpu (start_of vcpu)
vcpu_is vcpu canonical = record {
  start = record {
    cr3 = 0x1000;
    rip = code_address vcpu;
    rsp = 0;
    rflags = 2;
    gdtr = table_register 0 0;
    idtr = table_register 0 0;
    tr = start_tr 0 0;
  };
  starts = refl;
  lawful = record {
    root = refl;
    rip = canonical;
    rsp = refl;
    rflags = refl;
    gdtr = (0, 0, refl, refl);
    idtr = (0, 0, refl, refl);
    tr = (0, 0, refl, refl);
  };
}

-- an instruction has four bytes
length-adds : (seed vcpu first count : ℕ) → length (flat_map (add_bytes seed vcpu) (range_with_len first count)) ≡ 4 * count
length-adds seed vcpu first zero = refl
length-adds seed vcpu first (suc count) = omega (arith, length-adds seed vcpu (first + 1) count)

length-code_bytes : (seed size vcpu : ℕ) → length (code_bytes seed size vcpu) ≡ 4 * size + 1
unfolding code_bytes
length-code_bytes seed size vcpu =
    omega (arith, length-append (flat_map (add_bytes seed vcpu) (range_with_len 0 size)) (0xF4 ∷ []), length-adds seed vcpu 0 size)

-- the code of each vcpu lies within the guest's pages
code_is : (seed size vcpu : ℕ) → size ≤ size_limit → vcpu ≤ 3 → IsLawfulSegment page_count (code_segment seed size vcpu)
code_is seed size vcpu few there = record {
  some = omega (arith, length-code_bytes seed size vcpu);
  within = omega (arith, length-code_bytes seed size vcpu);
}

guest_is : (seed size : ℕ) → size ≤ size_limit → IsLawfulGuest (made_guest seed size)
guest_is seed size few = record {
  some_pages = omega arith;
  most_pages = omega arith;
  some_vcpus = omega arith;
  most_vcpus = omega arith;
  vcpus = All-from_recursion IsLawfulVcpu (made_guest seed size).vcpus (vcpu_is 0 refl, (vcpu_is 1 refl, (vcpu_is 2 refl, (vcpu_is 3 refl, tt))));
  most_segments = omega arith;
  segments = All-from_recursion (IsLawfulSegment page_count) (made_guest seed size).segments (
    record { some = omega arith; within = omega arith },
    (
      record { some = omega arith; within = omega arith },
      (
        record { some = omega arith; within = omega arith },
        (
          code_is seed size 0 few (omega arith),
          (
            code_is seed size 1 few (omega arith),
            (
              code_is seed size 2 few (omega arith),
              (
                code_is seed size 3 few (omega arith),
                tt,
              ),
            ),
          ),
        ),
      ),
    ),
  );
}

pub made_image-lawful : (seed size : ℕ) → size ≤ size_limit → IsLawfulImage (made_image seed size)
unfolding made_image
made_image-lawful seed size few = record {
  first_version = omega arith;
  last_version = omega arith;
  features = omega arith;
  none_in_first = λ _. refl;
  some_cpus = omega arith;
  most_cpus = omega arith;
  some_guests = omega arith;
  most_guests = omega arith;
  guests = All-from_recursion IsLawfulGuest (made_image seed size).guests (guest_is seed size few, tt);
}
