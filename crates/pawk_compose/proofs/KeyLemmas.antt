-- Marks of the elements of an array, key by key.
use Rattle.std.proofs.Common.{◌≡◌, ◌≢◌, ◌<◌, ◌⊎◌, inl, inr, ⊎_elim, ℕ, suc, Bool, true, false, List, [], ◌∷◌, length, Some, None, Ordering, refl, sym, ◌∙◌, ap, subst, arith}
use Rattle.std.specs.Str.{bytes_eq}
use Rattle.std.specs.declared.cmp.Ordering.TheVariants.{Less, Equal, Greater}
use Rattle.std.specs.FinMap.Entries.{by_order}
use Rattle.std.proofs.lemmas.Slice.Eq.{bytes_eq-Decides}
use Rattle.pawk_keyed_map.specs.Keyed.{Keyed, Rise, found, order, put}
use Rattle.pawk_keyed_map.proofs.EntriesLemmas.{rise-put, same_found, put_here, put_other}
use Rattle.pawk_frozen.specs.Marks.{Mark, Marks, mark_found, mark_or_blank, put_mark}
use Rattle.pawk_shards.specs.Joined.{composed}
use Rattle.pawk_compose.specs.Compositions.{may_follow, noted_again, AllFollow, AreJoined}
use Rattle.pawk_compose.proofs.MarkLemmas.{nothing_follows, follows_nothing, noted_first}

-- a key is this one or another
pub same_key : (q k : List ℕ) → (q ≡ k) ⊎ (q ≢ k)
same_key q k = by (bytes_eq q k) refl where
  by : (b : Bool) → bytes_eq q k ≡ b → (q ≡ k) ⊎ (q ≢ k)
  by true e = inl ((bytes_eq-Decides q k).0 e)
  by false e = inr (λ same. let yes = (bytes_eq-Decides q k).1 same in let bad : true ≡ false = sym yes ∙ e in cc)

-- ---- the first key, and those that are left

module _ (k : List ℕ) (m : Mark) (left rest : Marks) (is : left ≡ put_mark k m rest) (new : found k rest ≡ None) where
  pub here : found k left ≡ Some m
  here = ap (found k) is ∙ put_here k m rest

  pub other : (q : List ℕ) → q ≢ k → found q left ≡ found q rest
  other q h = ap (found q) is ∙ put_other q k m rest h

  pub gone : (q : List ℕ) → q ≡ k → found q rest ≡ None
  gone q e = ap (λ x. found x rest) e ∙ new

  pub rise_left : Rise rest → Rise left
  rise_left h = subst Rise (sym is) (rise-put k m rest h)

  module _ (es : Marks) where
    pub first_follows : AllFollow es left → may_follow (mark_found k es) m ≡ true
    first_follows all = ap (λ o. may_follow (mark_found k es) (mark_or_blank o)) (sym here) ∙ all k

    pub rest_follow : AllFollow es left → AllFollow es rest
    rest_follow all q = ⊎_elim same apart (same_key q k) where
      same : q ≡ k → may_follow (mark_found q es) (mark_found q rest) ≡ true
      same e = ap (λ o. may_follow (mark_found q es) (mark_or_blank o)) (gone q e) ∙ nothing_follows (mark_found q es)

      apart : q ≢ k → may_follow (mark_found q es) (mark_found q rest) ≡ true
      apart h = ap (λ o. may_follow (mark_found q es) (mark_or_blank o)) (sym (other q h)) ∙ all q

    pub all_follow : may_follow (mark_found k es) m ≡ true → AllFollow es rest → AllFollow es left
    all_follow first more q = ⊎_elim same apart (same_key q k) where
      same : q ≡ k → may_follow (mark_found q es) (mark_found q left) ≡ true
      same e =
          subst (λ (x : List ℕ). may_follow (mark_found x es) (mark_found x left) ≡ true) (sym e)
          (ap (λ o. may_follow (mark_found k es) (mark_or_blank o)) here ∙ first)

      apart : q ≢ k → may_follow (mark_found q es) (mark_found q left) ≡ true
      apart h = ap (λ o. may_follow (mark_found q es) (mark_or_blank o)) (other q h) ∙ more q

-- nothing that is left may not follow
pub none_left : (es left : Marks) → left ≡ [] → AllFollow es left
none_left es left e q = ap (λ ms. may_follow (mark_found q es) (mark_found q ms)) e ∙ nothing_follows (mark_found q es)

-- ---- fewer are left

length-put : {A : Type 0} (k : List ℕ) (v : A) (es : Keyed A) → found k es ≡ None → length (put k v es) ≡ suc (length es)
length-put k v [] e = refl
length-put k v (x ∷ es) e = by (order k x.0) refl (length-put k v es) where
  by : (o : Ordering) → order k x.0 ≡ o → (found k es ≡ None → length (put k v es) ≡ suc (length es)) →
      length (by_order o ((k, v) ∷ x ∷ es) ((x.0, v) ∷ es) (x ∷ put k v es)) ≡ suc (suc (length es))
  by Less s rest = refl
  by Equal s rest = let no : Some x.1 ≡ None = rw s at e in cc
  by Greater s rest = let none : found k es ≡ None = rw s at e in ap suc (rest none)

pub fewer_left : (k : List ℕ) (m : Mark) (left rest : Marks) → left ≡ put_mark k m rest → found k rest ≡ None → length rest < length left
fewer_left k m left rest is new =
    let same = ap length is in
    let one = length-put k m rest new in
    omega (arith, same, one)

-- ---- marks that are noted after others, one after the other

pub record AreNoting (old all now left : Marks) : Type 0 where
  pub follow : AllFollow now left
  pub joined : (q : List ℕ) → noted_again (found q now) (found q left) ≡ noted_again (found q old) (found q all)
  pub rise : Rise left → Rise all

pub none_noted : (old all : Marks) → AllFollow old all → AreNoting old all old all
none_noted old all h = record { follow = h; joined = λ q. refl; rise = λ r. r }

module _ (old all now next left rest : Marks) (k : List ℕ) (m w : Mark) (is : left ≡ put_mark k m rest) (new : found k rest ≡ None)
    (change : next ≡ put_mark k w now) (one : composed (mark_found k now) m ≡ Some w) (h : AreNoting old all now left) where
  stays : (q : List ℕ) → q ≢ k → found q next ≡ found q now
  stays q apart = ap (found q) change ∙ put_other q k w now apart

  follow_at : (q : List ℕ) → may_follow (mark_found q next) (mark_found q rest) ≡ true
  follow_at q = ⊎_elim same apart (same_key q k) where
    same : q ≡ k → may_follow (mark_found q next) (mark_found q rest) ≡ true
    same e = ap (λ o. may_follow (mark_found q next) (mark_or_blank o)) (gone k m left rest is new q e) ∙ nothing_follows (mark_found q next)

    apart : q ≢ k → may_follow (mark_found q next) (mark_found q rest) ≡ true
    apart differs =
        ap (λ o. may_follow (mark_or_blank o) (mark_found q rest)) (stays q differs)
        ∙ ap (λ o. may_follow (mark_found q now) (mark_or_blank o)) (sym (other k m left rest is new q differs))
        ∙ h.follow q

  joined_here : noted_again (found k next) (found k rest) ≡ noted_again (found k old) (found k all)
  joined_here =
      ap (noted_again (found k next)) new
      ∙ ap (found k) change
      ∙ put_here k w now
      ∙ sym one
      ∙ ap (noted_again (found k now)) (sym (here k m left rest is new))
      ∙ h.joined k

  joined_at : (q : List ℕ) → noted_again (found q next) (found q rest) ≡ noted_again (found q old) (found q all)
  joined_at q = ⊎_elim same apart (same_key q k) where
    same : q ≡ k → noted_again (found q next) (found q rest) ≡ noted_again (found q old) (found q all)
    same e = subst (λ (x : List ℕ). noted_again (found x next) (found x rest) ≡ noted_again (found x old) (found x all)) (sym e) joined_here

    apart : q ≢ k → noted_again (found q next) (found q rest) ≡ noted_again (found q old) (found q all)
    apart differs =
        ap (λ o. noted_again o (found q rest)) (stays q differs)
        ∙ ap (noted_again (found q now)) (sym (other k m left rest is new q differs))
        ∙ h.joined q

  pub one_noted : AreNoting old all next rest
  one_noted = record { follow = follow_at; joined = joined_at; rise = λ r. h.rise (rise_left k m left rest is new r) }

pub all_noted : (old all now left : Marks) → left ≡ [] → AreNoting old all now left → AreJoined old all now × Rise all
all_noted old all now left e h = (
  λ q. sym (ap (λ ms. noted_again (found q now) (found q ms)) e) ∙ h.joined q,
  h.rise (subst Rise (sym e) refl),
)

-- marks that are noted where nothing was are the same
pub all_follow_nothing : (all : Marks) → AllFollow [] all
all_follow_nothing all q = follows_nothing (mark_found q all)

pub the_same : (all now : Marks) → Rise all → Rise now → AreJoined [] all now → now ≡ all
the_same all now r s h = same_found now all s r (λ q. h q ∙ noted_first (found q all))
