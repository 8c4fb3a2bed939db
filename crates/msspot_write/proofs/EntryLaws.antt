-- A pool that grows by an entry, and by a walk.
use Rattle.std.proofs.Common.{◌≡◌, ℕ, zero, suc, ◌+◌, ◌<◌, ◌≤◌, get_or, Bool, true, false, ◌&&◌, ◌||◌, List, [], ◌∷◌, ◌++◌, Some, None, refl, sym, ap, ◌∙◌, append_assoc, arith}
use Rattle.std.specs.Prelude.{if◌then◌else◌, nat_eq, length, is_some, unwrap_or}
use Rattle.std.specs.List.{list_any}
use Rattle.std.proofs.lemmas.Bool.{eqb-true, both_ways}
use Rattle.std.proofs.lemmas.List.{append-nil}
use Rattle.std.proofs.lemmas.List.Folds.{list_any-append}
use Rattle.std.proofs.lemmas.List.Sums.{fold-append}
use Rattle.machine.specs.Texts.{same_text}
use Rattle.image_bytes.specs.Layout.{all_onto, byte_onto}
use Rattle.image_pools.specs.Pools.{Entry, same_entry, unseen, pool, entry_size, offset, pool_onto}
use Rattle.msspot_write.specs.Parts.{found}
use Rattle.msspot_write.specs.Starts.{added, joined, pool_size}
use Rattle.msspot_write.proofs.MapLaws.{text_same}

entry_same : (a b : Entry) → same_entry a b ≡ true → a ≡ b
entry_same a b e = by (nat_eq a.kind b.kind) refl e
  where
    make : ℕ → List ℕ → Entry
    make k t = record { kind = k; bytes = t }

    by : (s : Bool) → nat_eq a.kind b.kind ≡ s → (s && same_text a.bytes b.bytes) ≡ true → a ≡ b
    by true p q = ap (λ k. make k a.bytes) (eqb-true a.kind b.kind p) ∙ ap (make b.kind) (text_same a.bytes b.bytes q)
    by false p q = absurd (cc q)

-- ---- offsets

or_false : (b : Bool) → (b || false) ≡ b
or_false true = refl
or_false false = refl

-- behind a pool that hasn't the entry
offset_behind : (es rest : List Entry) (x : Entry) → list_any (same_entry x) es ≡ false → offset (es ++ rest) x ≡ pool_size es + offset rest x
offset_behind [] rest x none = omega arith
offset_behind (e ∷ es) rest x none = go (same_entry x e) refl none (offset_behind es rest x)
  where
    go : (b : Bool) → same_entry x e ≡ b → (b || list_any (same_entry x) es) ≡ false → (list_any (same_entry x) es ≡ false → offset (es ++ rest) x ≡ pool_size es + offset rest x) → (if b then 0 else entry_size e.bytes + offset (es ++ rest) x) ≡ pool_size (e ∷ es) + offset rest x
    go true p h more = absurd (cc h)
    go false p h more = let m = more h in omega (arith, m)

offset_there : (es rest : List Entry) (x : Entry) → list_any (same_entry x) es ≡ true → offset (es ++ rest) x ≡ offset es x
offset_there [] rest x h = absurd (cc h)
offset_there (e ∷ es) rest x h = go (same_entry x e) refl h (offset_there es rest x)
  where
    go : (b : Bool) → same_entry x e ≡ b → (b || list_any (same_entry x) es) ≡ true → (list_any (same_entry x) es ≡ true → offset (es ++ rest) x ≡ offset es x) → (if b then 0 else entry_size e.bytes + offset (es ++ rest) x) ≡ (if b then 0 else entry_size e.bytes + offset es x)
    go true p h more = refl
    go false p h more = ap (λ n. entry_size e.bytes + n) (more h)

pub offset_past : (es : List Entry) (x : Entry) → list_any (same_entry x) es ≡ false → offset es x ≡ pool_size es
offset_past es x none = ap (λ ys. offset ys x) (sym (append-nil es)) ∙ offset_behind es [] x none ∙ omega arith

-- what is found, or the end
pub offset_found : (es : List Entry) (x : Entry) → unwrap_or (found es x) (pool_size es) ≡ offset es x
offset_found es x = go (list_any (same_entry x) es) refl
  where
    go : (b : Bool) → list_any (same_entry x) es ≡ b → unwrap_or (if b then Some (offset es x) else None) (pool_size es) ≡ offset es x
    go true p = refl
    go false p = sym (offset_past es x p)

pub offset_within : (es : List Entry) (x : Entry) → offset es x ≤ pool_size es
offset_within [] x = omega arith
offset_within (e ∷ es) x = go (same_entry x e) (offset_within es x)
  where
    go : (b : Bool) → offset es x ≤ pool_size es → (if b then 0 else entry_size e.bytes + offset es x) ≤ pool_size (e ∷ es)
    go true h = omega arith
    go false h = omega (arith, h)

-- ---- one more entry

pub found_more : (es : List Entry) (e x : Entry) → list_any (same_entry e) es ≡ false → found (es ++ e ∷ []) x ≡ (if same_entry x e then Some (pool_size es) else found es x)
found_more es e x none = go (same_entry x e) refl (list_any (same_entry x) es) refl
  where
    any : list_any (same_entry x) (es ++ e ∷ []) ≡ (list_any (same_entry x) es || (same_entry x e || false))
    any = list_any-append (same_entry x) es (e ∷ [])

    go : (s : Bool) → same_entry x e ≡ s → (t : Bool) → list_any (same_entry x) es ≡ t → found (es ++ e ∷ []) x ≡ (if s then Some (pool_size es) else (if t then Some (offset es x) else None))
    go true p true q = absurd (both_ways (list_any (same_entry e) es) none (ap (λ y. list_any (same_entry y) es) (sym (entry_same x e p)) ∙ q))
    go true p false q =
        let there : list_any (same_entry x) (es ++ e ∷ []) ≡ true = any ∙ ap (λ a. a || (same_entry x e || false)) q ∙ ap (λ a. a || false) p in
        let here : offset (e ∷ []) x ≡ 0 = ap (λ (b : Bool). if b then 0 else entry_size e.bytes + 0) p in
        ap (λ b. if b then Some (offset (es ++ e ∷ []) x) else None) there ∙ ap Some (offset_behind es (e ∷ []) x q ∙ omega (arith, here))
    go false p true q =
        let there : list_any (same_entry x) (es ++ e ∷ []) ≡ true = any ∙ ap (λ a. a || (same_entry x e || false)) q in
        ap (λ b. if b then Some (offset (es ++ e ∷ []) x) else None) there ∙ ap Some (offset_there es (e ∷ []) x q)
    go false p false q =
        let there : list_any (same_entry x) (es ++ e ∷ []) ≡ false = any ∙ ap (λ a. a || (same_entry x e || false)) q ∙ ap (λ a. a || false) p in
        ap (λ b. if b then Some (offset (es ++ e ∷ []) x) else None) there

pub size_more : (es : List Entry) (e : Entry) → pool_size (es ++ e ∷ []) ≡ pool_size es + entry_size e.bytes
size_more [] e = omega arith
size_more (x ∷ xs) e = let more = size_more xs e in omega (arith, more)

-- ---- a walk

pub joined_more : (es xs ys : List Entry) → joined (joined es xs) ys ≡ joined es (xs ++ ys)
joined_more es xs ys = sym (fold-append added es xs ys)

-- entries that were seen in another order
unseen_joined : (es seen walk : List Entry) → ((x : Entry) → list_any (same_entry x) es ≡ list_any (same_entry x) seen) → joined es walk ≡ es ++ unseen seen walk
unseen_joined es seen [] h = sym (append-nil es)
unseen_joined es seen (x ∷ xs) h = go (list_any (same_entry x) seen) refl (unseen_joined es seen xs h) (unseen_joined (es ++ x ∷ []) (x ∷ seen) xs push)
  where
    swap : (a b : Bool) → (a || (b || false)) ≡ (b || a)
    swap true true = refl
    swap true false = refl
    swap false true = refl
    swap false false = refl

    push : (e : Entry) → list_any (same_entry e) (es ++ x ∷ []) ≡ (same_entry e x || list_any (same_entry e) seen)
    push e = list_any-append (same_entry e) es (x ∷ []) ∙ ap (λ b. b || (same_entry e x || false)) (h e) ∙ swap (list_any (same_entry e) seen) (same_entry e x)

    go : (b : Bool) → list_any (same_entry x) seen ≡ b → joined es xs ≡ es ++ unseen seen xs → joined (es ++ x ∷ []) xs ≡ (es ++ x ∷ []) ++ unseen (x ∷ seen) xs
        → joined (added es x) xs ≡ es ++ (if b then unseen seen xs else x ∷ unseen (x ∷ seen) xs)
    go true p same more = ap (λ a. joined (if a then es else es ++ x ∷ []) xs) (h x ∙ p) ∙ same
    go false p same more = ap (λ a. joined (if a then es else es ++ x ∷ []) xs) (h x ∙ p) ∙ more ∙ append_assoc es (x ∷ []) (unseen (x ∷ seen) xs)

pub joined_pool : (walk : List Entry) → joined [] walk ≡ pool walk
joined_pool walk = unseen_joined [] [] walk (λ x. refl)

-- ---- the size is that of the bytes

bytes_long : (bytes rest : List ℕ) → length (all_onto byte_onto bytes rest) ≡ length bytes + length rest
bytes_long [] rest = omega arith
bytes_long (b ∷ bytes) rest = let h = bytes_long bytes rest in omega (arith, h)

pub size_bytes : (es : List Entry) → length (pool_onto es []) ≡ pool_size es
size_bytes [] = refl
size_bytes (e ∷ es) =
    let here = bytes_long e.bytes (pool_onto es []) in
    let more = size_bytes es in
    omega (arith, here, more)

-- ---- what a walk has its pool has

any_added : (e x : Entry) (es : List Entry) → list_any (same_entry e) (added es x) ≡ (list_any (same_entry e) es || same_entry e x)
any_added e x es = go (list_any (same_entry x) es) refl (same_entry e x) refl (list_any (same_entry e) es) refl
  where
    push : list_any (same_entry e) (es ++ x ∷ []) ≡ (list_any (same_entry e) es || (same_entry e x || false))
    push = list_any-append (same_entry e) es (x ∷ [])

    go : (b : Bool) → list_any (same_entry x) es ≡ b → (s : Bool) → same_entry e x ≡ s → (t : Bool) → list_any (same_entry e) es ≡ t → list_any (same_entry e) (if b then es else es ++ x ∷ []) ≡ (t || s)
    go true p true q true r = r
    go true p true q false r = ap (λ y. list_any (same_entry y) es) (entry_same e x q) ∙ p
    go true p false q t r = r ∙ sym (or_false t)
    go false p s q t r = push ∙ ap (λ a. a || (same_entry e x || false)) r ∙ ap (λ a. t || a) (or_false (same_entry e x) ∙ q)

or_assoc : (a b c : Bool) → ((a || b) || c) ≡ (a || (b || c))
or_assoc true b c = refl
or_assoc false b c = refl

any_joined : (e : Entry) (es walk : List Entry) → list_any (same_entry e) (joined es walk) ≡ (list_any (same_entry e) es || list_any (same_entry e) walk)
any_joined e es [] = sym (or_false (list_any (same_entry e) es))
any_joined e es (x ∷ xs) =
    any_joined e (added es x) xs
    ∙ ap (λ a. a || list_any (same_entry e) xs) (any_added e x es)
    ∙ or_assoc (list_any (same_entry e) es) (same_entry e x) (list_any (same_entry e) xs)

pub any_pool : (e : Entry) (walk : List Entry) → list_any (same_entry e) (pool walk) ≡ list_any (same_entry e) walk
any_pool e walk = ap (λ es. list_any (same_entry e) es) (sym (joined_pool walk)) ∙ any_joined e [] walk

pub found_any : (e : Entry) (es : List Entry) → is_some (found es e) ≡ list_any (same_entry e) es
found_any e es = go (list_any (same_entry e) es)
  where
    go : (b : Bool) → is_some (if b then Some (offset es e) else None) ≡ b
    go true = refl
    go false = refl

pub entry_small : (es : List Entry) (i : ℕ) (e : Entry) → i < length es → e ≡ get_or es i e → length e.bytes ≤ length (pool_onto es [])
entry_small es i e below is = omega (arith, size_bytes es, within es i below is)
  where
    within : (es : List Entry) (i : ℕ) → i < length es → e ≡ get_or es i e → length e.bytes ≤ pool_size es
    within [] i below is = absurd (omega arith)
    within (x ∷ xs) zero below is = omega (arith, ap (λ (y : Entry). length y.bytes) is)
    within (x ∷ xs) (suc i) below is = omega (arith, within xs i (omega arith) is)
