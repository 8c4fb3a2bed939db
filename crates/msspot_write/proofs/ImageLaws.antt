-- The pieces that are pushed are the image.
use Rattle.std.proofs.Common.{◌≡◌, ℕ, ◌+◌, ◌%◌, ◌/◌, ◌≤◌, List, [], ◌∷◌, ◌++◌, length, replicate, refl, sym, ap, subst, ◌∙◌, append_assoc}
use Rattle.std.specs.Prelude.{slice_index}
use Rattle.std.specs.List.{flat_map}
use Rattle.image_bytes.specs.Layout.{word_onto, words_onto, table_onto, all_onto, byte_onto, zeros_onto, marker, padding, unpadded, counts_of, lengths_of, body_onto, onto}
use Rattle.image_pools.specs.Pools.{offset, pool_onto}
use Rattle.image_form.specs.Whole.{name_entry}
use Rattle.msspot_write.specs.declared.parts.Parts.{Parts}
use Rattle.msspot_write.specs.Parts.{tables, in_tables, data_bytes, PoolsOf, pools_of, tables_words, image_of_parts}
use Rattle.msspot_write.proofs.OntoLaws.{Before, then_before, words_before, tables_before, bytes_before, pool_before, zeros_are}

-- the pools are small
pub record Small (ps : PoolsOf) (p : Parts) (cs : List (List ℕ)) : Type 0 where
  pub strings : length (pool_onto ps.strings []) ≤ 65535
  pub signatures : length (pool_onto ps.signatures []) ≤ 65535
  pub codes : length (flat_map (λ c. c) cs) ≤ 65535
  pub room : length (in_tables data_bytes p tables) ≤ 65535

pub are_small : (ps : PoolsOf) (p : Parts) (cs : List (List ℕ)) (bytes : List ℕ) → ps ≡ pools_of p → bytes ≡ lengths_of (image_of_parts p cs) → ((k : ℕ) → slice_index bytes k ≤ 65535) → Small ps p cs
are_small ps p cs bytes e f h =
    let most = λ (k : ℕ). subst (λ bs. slice_index bs k ≤ 65535) f (h k) in
    record {
      strings = subst (λ (qs : PoolsOf). length (pool_onto qs.strings []) ≤ 65535) (sym e) (most 0);
      signatures = subst (λ (qs : PoolsOf). length (pool_onto qs.signatures []) ≤ 65535) (sym e) (most 1);
      codes = most 2;
      room = most 3;
    }

-- the header before the rest
abbrev pub head : ℕ → List ℕ → ℕ → ℕ → List ℕ → List ℕ → List ℕ → List ℕ
head whole version name entry rows bytes rest =
    all_onto byte_onto marker (word_onto (whole % 65536) (word_onto (whole / 65536) (words_onto version (word_onto name (word_onto entry (words_onto rows (words_onto bytes (word_onto 0 rest))))))))

pub head_before : (whole : ℕ) (version : List ℕ) (name entry : ℕ) (rows bytes : List ℕ) → Before (head whole version name entry rows bytes)
head_before whole version name entry rows bytes =
    then_before (λ r. all_onto byte_onto marker (word_onto (whole % 65536) (word_onto (whole / 65536) r))) (λ r. words_onto version (word_onto name (word_onto entry (words_onto rows (words_onto bytes (word_onto 0 r))))))
    (λ r. refl)
    (then_before (words_onto version) (λ r. word_onto name (word_onto entry (words_onto rows (words_onto bytes (word_onto 0 r)))))
    (words_before version)
    (then_before (λ r. word_onto name (word_onto entry r)) (λ r. words_onto rows (words_onto bytes (word_onto 0 r)))
    (λ r. refl)
    (then_before (words_onto rows) (λ r. words_onto bytes (word_onto 0 r)) (words_before rows) (then_before (words_onto bytes) (word_onto 0) (words_before bytes) (λ r. refl)))))

abbrev pub pools_rest : List (List ℕ) → List ℕ → List ℕ
pools_rest pools rest = all_onto (λ pool more. all_onto byte_onto pool more) pools rest

pools_joined : (ps : PoolsOf) (cs z : List ℕ) → pool_onto ps.strings (pool_onto ps.signatures (cs ++ ps.data_pool)) ++ z ≡ pools_rest (pool_onto ps.strings [] ∷ pool_onto ps.signatures [] ∷ cs ∷ ps.data_pool ∷ []) z
pools_joined ps cs z =
    let a = pool_onto ps.strings [] in
    let b = pool_onto ps.signatures [] in
    let d = ps.data_pool in
    ap (λ ys. ys ++ z) (pool_before ps.strings (pool_onto ps.signatures (cs ++ d)) ∙ ap (λ ys. a ++ ys) (pool_before ps.signatures (cs ++ d)))
    ∙ append_assoc a (b ++ (cs ++ d)) z
    ∙ ap (λ ys. a ++ ys) (append_assoc b (cs ++ d) z ∙ ap (λ ys. b ++ ys) (append_assoc cs d z))
    ∙ sym
    (bytes_before a (all_onto byte_onto b (all_onto byte_onto cs (all_onto byte_onto d z)))
    ∙ ap (λ ys. a ++ ys)
    (bytes_before b (all_onto byte_onto cs (all_onto byte_onto d z))
    ∙ ap (λ ys. b ++ ys) (bytes_before cs (all_onto byte_onto d z) ∙ ap (λ ys. cs ++ ys) (bytes_before d z))))

module _ (p : Parts) (cs : List (List ℕ)) where
  -- all of it, by pools, counts and size
  image_by : PoolsOf → List ℕ → List ℕ → ℕ → ℕ → List ℕ
  image_by ps rows bytes whole name =
      head whole p.version name p.entry rows bytes
      (all_onto table_onto (tables_words ps p cs 0 tables)
      (pools_rest (pool_onto ps.strings [] ∷ pool_onto ps.signatures [] ∷ flat_map (λ c. c) cs ∷ ps.data_pool ∷ []) (zeros_onto (padding (unpadded rows bytes)) [])))

  pushed_all : (ps : PoolsOf) (rows bytes : List ℕ) (whole name : ℕ) (a b d e : List ℕ)
      → a ≡ head whole p.version name p.entry rows bytes []
      → b ≡ a ++ all_onto table_onto (tables_words ps p cs 0 tables) []
      → d ≡ b ++ pool_onto ps.strings (pool_onto ps.signatures (flat_map (λ c. c) cs ++ ps.data_pool))
      → e ≡ d ++ replicate (padding (unpadded rows bytes)) 0
      → e ≡ image_by ps rows bytes whole name
  unfolding image_by
  pushed_all ps rows bytes whole name a b d e ea eb ed ee =
      let h = head whole p.version name p.entry rows bytes in
      let ts = tables_words ps p cs 0 tables in
      let z = zeros_onto (padding (unpadded rows bytes)) [] in
      let q = pool_onto ps.strings (pool_onto ps.signatures (flat_map (λ c. c) cs ++ ps.data_pool)) in
      let r = pools_rest (pool_onto ps.strings [] ∷ pool_onto ps.signatures [] ∷ flat_map (λ c. c) cs ∷ ps.data_pool ∷ []) z in
      ee
      ∙ ap (λ ys. d ++ ys) (sym (zeros_are (padding (unpadded rows bytes))))
      ∙ ap (λ ys. ys ++ z) ed
      ∙ append_assoc b q z
      ∙ ap (λ ys. b ++ ys) (pools_joined ps (flat_map (λ c. c) cs) z)
      ∙ ap (λ ys. ys ++ r) eb
      ∙ append_assoc a (all_onto table_onto ts []) r
      ∙ ap (λ ys. a ++ ys) (sym (tables_before ts r))
      ∙ ap (λ ys. ys ++ all_onto table_onto ts r) ea
      ∙ sym (head_before whole p.version name p.entry rows bytes (all_onto table_onto ts r))

  pub image_pushed : (ps : PoolsOf) (rows bytes : List ℕ) (whole name : ℕ) (a b d e : List ℕ)
      → ps ≡ pools_of p → rows ≡ counts_of (image_of_parts p cs) → bytes ≡ lengths_of (image_of_parts p cs)
      → whole ≡ unpadded rows bytes + padding (unpadded rows bytes) → name ≡ offset ps.strings (name_entry p.name)
      → a ≡ head whole p.version name p.entry rows bytes []
      → b ≡ a ++ all_onto table_onto (tables_words ps p cs 0 tables) []
      → d ≡ b ++ pool_onto ps.strings (pool_onto ps.signatures (flat_map (λ c. c) cs ++ ps.data_pool))
      → e ≡ d ++ replicate (padding (unpadded rows bytes)) 0
      → e ≡ onto (image_of_parts p cs) []
  unfolding image_by body_onto
  image_pushed ps rows bytes whole name a b d e ep er eb ew en ea ebb ed ee =
      pushed_all ps rows bytes whole name a b d e ea ebb ed ee
      ∙ ap (λ n. image_by ps rows bytes n name) ew
      ∙ ap (λ n. image_by ps rows bytes (unpadded rows bytes + padding (unpadded rows bytes)) n) en
      ∙ (λ i. image_by (ep i) (er i) (eb i) (unpadded (er i) (eb i) + padding (unpadded (er i) (eb i))) (offset (ep i).strings (name_entry p.name)))
