use Rattle.std.proofs.Common.{rules, ◌≡◌, List, [], ◌∷◌, subst, sym}
use Rattle.svm_model.specs.declared.page_tables.Entry.{Entry}
use Rattle.page_walk.specs.PathBits.{Join}
use Rattle.page_walk.specs.declared.path_bits.PathBits.{PathBits}
use Rattle.page_walk.proofs.CommonBits.{join-top, join-below}
use Rattle.page_walk.proofs.walks.walk.Goals as goal

-- the bits of what was read so far join its path
joined : {bits found : PathBits} (path : List Entry) → found ≡ bits → Join bits path → Join found path
joined path e h = subst (λ (b : PathBits). Join b path) (sym e) h

pub end_at_leaf-requires : goal.end_at_leaf-requires
end_at_leaf-requires g c =
    let top : Entry = c.look_up-end.result.entry in
    let third : Entry = c.look_up-end-2.result.entry in (
      search rules,
      (
        c.requires,
        (
          search rules,
          joined (top ∷ third ∷ []) c.bits_with-bits.ensures (join-below c.top_bits.result (top ∷ []) third (joined (top ∷ []) c.top_bits.ensures (join-top top))),
        ),
      ),
    )

pub end_at_leaf-requires-then-ends_path-2 : goal.end_at_leaf-requires-then-ends_path-2
end_at_leaf-requires-then-ends_path-2 g c =
    let top : Entry = c.look_up-end.result.entry in
    let third : Entry = c.look_up-end-2.result.entry in
    let second : Entry = c.look_up-end-3.result.entry in (
      search rules,
      (
        c.requires,
        (
          search rules,
          joined (top ∷ third ∷ second ∷ []) c.bits_with-bits-2.ensures (join-below c.bits_with-bits.result (top ∷ third ∷ []) second
              (joined (top ∷ third ∷ []) c.bits_with-bits.ensures (join-below c.top_bits.result (top ∷ []) third (joined (top ∷ []) c.top_bits.ensures (join-top top))))),
        ),
      ),
    )

pub end_at_leaf-requires-in-None : goal.end_at_leaf-requires-in-None
end_at_leaf-requires-in-None g c =
    let top : Entry = c.look_up-end.result.entry in
    let third : Entry = c.look_up-end-2.result.entry in
    let second : Entry = c.look_up-end-3.result.entry in
    let last : Entry = c.look_up-end-4.result.entry in (
      search rules,
      (
        c.requires,
        (
          search rules,
          joined (top ∷ third ∷ second ∷ last ∷ []) c.bits_with.ensures (join-below c.bits_with-bits-2.result (top ∷ third ∷ second ∷ []) last
              (joined (top ∷ third ∷ second ∷ []) c.bits_with-bits-2.ensures (join-below c.bits_with-bits.result (top ∷ third ∷ []) second
              (joined (top ∷ third ∷ []) c.bits_with-bits.ensures (join-below c.top_bits.result (top ∷ []) third (joined (top ∷ []) c.top_bits.ensures (join-top top))))))),
        ),
      ),
    )
