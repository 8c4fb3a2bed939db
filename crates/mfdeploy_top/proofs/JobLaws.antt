-- What a job comes to, by cases.
use Rattle.std.proofs.Common.{◌≡◌, ℕ, zero, suc, subst, Bool, IsTrue, List, [], ◌∷◌, ◌++◌, length, map, take, Option, Some, None, refl, sym, ap, ◌∙◌, inl, inr, arith}
use Rattle.std.specs.Prelude.{◌⊎◌, ◌+◌, ◌<◌, get_or, slice_get, IsNone}
use Rattle.std.proofs.lemmas.List.{map_more, map-append}
use Rattle.plain_types.specs.Counts.{Rose}
use Rattle.mf_types.specs.Files.{FilesStay, OthersStay}
use Rattle.mf_types.specs.SinkCalls.{SinkState}
use Rattle.mf_types.specs.StoreCalls.{StoreState}
use Rattle.mf_front.specs.declared.jobs.Job.{Job}
use Rattle.mf_front.specs.declared.jobs.Job.TheVariants.{Run1, Check, Convert}
use Rattle.mf_front.specs.declared.outcome.Outcome.{Outcome}
use Rattle.mf_front.specs.declared.outcome.Outcome.TheVariants.{Usage, ReadFault, NoMemory}
use Rattle.mf_front.specs.Jobs.{files_of}
use Rattle.mfdeploy_top.specs.Convert.{AreRefused, IsSetOf, PutEnds}
use Rattle.mfdeploy_top.specs.Jobs.{AreRead, IsFirstUnread, IsUnreadOf, IsReadOnly, Answers, IsNoJob, IsUnread, IsAnswered, ComesTo, IsTold, IsToldByPut, ReadEnds, FilesLeft, unread_of}
use Rattle.mfdeploy_top.specs.Writing.{EndsWith}
use Rattle.mfdeploy_top.specs.declared.reading.Unread.{Unread}
use Rattle.mfdeploy_top.specs.declared.reading.Unread.TheVariants as refusal

-- ---- nothing is put

pub no_job : (old new : StoreState) (stay : FilesStay old.held new.held) → ComesTo None old new Usage
no_job old new stay = inl (record { stay = stay; ends = inl (record { none = refl; told = refl }) })

pub unread : (asked : Job) (old new : StoreState) (file : List ℕ) → FilesStay old.held new.held → IsFirstUnread (files_of asked) old new file → ComesTo (Some asked) old new (ReadFault file)
unread asked old new file stay first =
    inl (record { stay = stay; ends = inr (inl (record { asked = asked; is_asked = refl; file = file; first = first; told = refl })) })

pub no_memory : (asked : Option Job) (old new : StoreState) → FilesStay old.held new.held → ComesTo asked old new NoMemory
no_memory asked old new stay = inl (record { stay = stay; ends = inr (inr (inr refl)) })

pub not_read : (asked : Job) (old new : StoreState) (r : Unread) (outcome : Outcome) → FilesStay old.held new.held → IsUnreadOf (files_of asked) old new r → outcome ≡ unread_of r → ComesTo (Some asked) old new outcome
not_read asked old new (refusal.File file) outcome stay first told =
    subst (λ (o : Outcome). ComesTo (Some asked) old new o) (sym told) (unread asked old new file stay first)
not_read asked old new refusal.NoMemory outcome stay first told =
    subst (λ (o : Outcome). ComesTo (Some asked) old new o) (sym told) (no_memory (Some asked) old new stay)

pub not_asked : (job : Option Job) (store : StoreState) → IsNone job → ComesTo job store store Usage
not_asked None store none = no_job store store (λ name. refl)
not_asked (Some asked) store none = absurd (cc none)

-- ---- the bytes of the files come to this

pub is_put : (out bytes_set : List ℕ) (assemblies : ℕ) (files bytes : List (List ℕ)) (old new : StoreState) (outcome : Outcome) → IsSetOf bytes bytes_set assemblies → PutEnds out bytes_set assemblies old new outcome → OthersStay old.held new.held out → ReadEnds (Convert out files) bytes old new outcome
is_put out set assemblies files bytes old new outcome become ends stay =
    inr (record { out = out; files = files; is_asked = refl; put = record { set = set; assemblies = assemblies; become = become; stay = stay; ends = ends } })

pub is_refused : (out : List ℕ) (files bytes : List (List ℕ)) (old new : StoreState) (outcome : Outcome) → AreRefused files bytes outcome ⊎ (outcome ≡ NoMemory) → FilesStay old.held new.held → ReadEnds (Convert out files) bytes old new outcome
is_refused out files bytes old new outcome told stay = inl (record { stay = stay; told = told })

pub is_answer : (asked : Job) (bytes : List (List ℕ)) (old new : StoreState) (outcome : Outcome) → Answers asked bytes outcome ⊎ (outcome ≡ NoMemory) → FilesStay old.held new.held → ReadEnds asked bytes old new outcome
is_answer asked bytes old new outcome told stay = inl (record { stay = stay; told = told })

-- ---- over the store from before the files were read

module _ (asked : Job) (bytes : List (List ℕ)) (old mid new : StoreState) (outcome : Outcome) (read : AreRead old (files_of asked) bytes) (only : IsReadOnly old mid) (stayed : FilesStay old.held mid.held) where
  told : IsTold asked bytes mid new outcome → ComesTo (Some asked) old new outcome
  told t = inl (record { stay = λ name. t.stay name ∙ stayed name; ends = by t.told })
    where
      by : Answers asked bytes outcome ⊎ (outcome ≡ NoMemory) → IsNoJob (Some asked) outcome ⊎ IsUnread (Some asked) old new outcome ⊎ IsAnswered (Some asked) old outcome ⊎ (outcome ≡ NoMemory)
      by (inl told) = inr (inr (inl (record { asked = asked; is_asked = refl; bytes = bytes; read = read; told = told })))
      by (inr none) = inr (inr (inr none))

  put_ends : (out set : List ℕ) (assemblies : ℕ) → PutEnds out set assemblies mid new outcome → PutEnds out set assemblies old new outcome
  put_ends out set assemblies (inl stored) =
      inl (record { held = λ tells. stored.held (subst (λ (b : Bool). IsTrue b) (sym only.tells) tells); told = stored.told })
  put_ends out set assemblies (inr (inl fault)) =
      inr (inl (record { cause = subst (λ (n : ℕ). Rose n new.faults) only.faults fault.cause; call = fault.call; told = fault.told }))
  put_ends out set assemblies (inr (inr none)) = inr (inr none)

  put : IsToldByPut asked bytes mid new outcome → ComesTo (Some asked) old new outcome
  put t =
      inr
      (record {
        out = t.out;
        files = t.files;
        is_asked = ap (λ (a : Job). Some a) t.is_asked;
        bytes = bytes;
        read = subst (λ (a : Job). AreRead old (files_of a) bytes) t.is_asked read;
        put = record {
          set = t.put.set;
          assemblies = t.put.assemblies;
          become = t.put.become;
          stay = λ other apart. t.put.stay other apart ∙ stayed other;
          ends = put_ends t.out t.put.set t.put.assemblies t.put.ends;
        };
      })

  pub comes : ReadEnds asked bytes mid new outcome → ComesTo (Some asked) old new outcome
  comes (inl t) = told t
  comes (inr t) = put t

-- ---- any outcome

module _ (job : Option Job) (old new : StoreState) (outcome : Outcome) where
  -- may be want of memory as well
  pub or_no_memory : ComesTo job old new outcome → ComesTo job old new NoMemory
  or_no_memory (inl leaves) = no_memory job old new leaves.stay
  or_no_memory (inr p) =
      inr
      (record {
        out = p.out;
        files = p.files;
        is_asked = p.is_asked;
        bytes = p.bytes;
        read = p.read;
        put = record { set = p.put.set; assemblies = p.put.assemblies; become = p.put.become; stay = p.put.stay; ends = inr (inr refl) };
      })

  all_left : (o : Option Job) → FilesStay old.held new.held → FilesLeft o old new
  all_left None stay = stay
  all_left (Some (Run1 file steps)) stay = stay
  all_left (Some (Check files)) stay = stay
  all_left (Some (Convert out files)) stay = λ other apart. stay other

  -- leaves all files but OUT
  pub files_left : ComesTo job old new outcome → FilesLeft job old new
  files_left (inl leaves) = all_left job leaves.stay
  files_left (inr p) = subst (λ (o : Option Job). FilesLeft o old new) (sym p.is_asked) p.put.stay

-- the text that is told is of this outcome, or of want of memory
pub is_ended : (job : Option Job) (old new : StoreState) (outcome : Outcome) (status : ℕ) (before after : SinkState) → ComesTo job old new outcome → EndsWith outcome status before after ⊎ EndsWith NoMemory status before after → (x : Outcome) × ComesTo job old new x × EndsWith x status before after
is_ended job old new outcome status before after comes (inl ends) = (outcome, comes, ends)
is_ended job old new outcome status before after comes (inr ends) = (NoMemory, or_no_memory job old new outcome comes, ends)

-- one file more was read
pub held_more : (held : List ℕ → Option (List ℕ)) (files bytes : List (List ℕ)) (k : ℕ) (read : List ℕ) → k < length files → map held (take k files) ≡ map Some bytes → held (get_or files k []) ≡ Some read → map held (take (k + 1) files) ≡ map Some (bytes ++ read ∷ [])
held_more held files bytes k read below before here =
    map_more held files k [] below
    ∙ (ap (λ (z : Option (List ℕ)). map held (take k files) ++ z ∷ []) here
    ∙ (ap (λ (zs : List (Option (List ℕ))). zs ++ Some read ∷ []) before
    ∙ sym (map-append Some bytes (read ∷ []))))

pub is_told : (files : List (List ℕ)) (old new : StoreState) (r : Unread) (name : List ℕ) → (r ≡ refusal.File name) ⊎ (r ≡ refusal.NoMemory) → IsFirstUnread files old new name → IsUnreadOf files old new r
is_told files old new r name (inl e) h = subst (IsUnreadOf files old new) (sym e) h
is_told files old new r name (inr e) h = subst (IsUnreadOf files old new) (sym e) tt

pub file_there : (xs : List (List ℕ)) (k : ℕ) (d : List ℕ) → k < length xs → slice_get xs k ≡ Some (get_or xs k d)
file_there [] k d below = absurd (omega (arith, below))
file_there (x ∷ xs) zero d below = refl
file_there (x ∷ xs) (suc k) d below = file_there xs k d (omega (arith, below))
