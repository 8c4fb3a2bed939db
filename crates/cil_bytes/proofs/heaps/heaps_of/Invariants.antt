use Rattle.std.proofs.Common.{◌≡◌, ◌++◌, ◌∷◌, [], take}
use Rattle.std.specs.List.{flat_map}
use Rattle.cil_layout.specs.Heaps.{strings_of, blobs_of, texts_of, content_of}
use Rattle.cil_bytes.proofs.heaps.heaps_of.Given as goal

abbrev pub invariant-loop-row : goal.invariant-loop-row
invariant-loop-row l = record {
  strings : l.heaps.strings.items ≡ l.initial.heaps.strings.items ++ flat_map strings_of (take l.row-index l.rows);
  blobs : l.heaps.blobs.items ≡ (0 ∷ []) ++ flat_map blobs_of (take l.row-index l.rows);
  texts : l.heaps.texts.items ≡ (0 ∷ []) ++ flat_map texts_of (take l.row-index l.rows);
  content : l.heaps.content.items ≡ flat_map content_of (take l.row-index l.rows);
}
