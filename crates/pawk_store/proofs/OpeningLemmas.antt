-- Names of scalars, and what they are assigned.
use Rattle.std.proofs.Common.{◌≡◌, ℕ, Bool, true, false, List, [], ◌∷◌, ◌++◌, Option, Some, None, refl, sym, ◌∙◌, ap, append_assoc}
use Rattle.std.specs.Prelude.{◌||◌, is_some, if◌then◌else◌, Vec}
use Rattle.std.specs.Option.{unwrap_or}
use Rattle.std.specs.declared.alloc.Global.{Global}
use Rattle.std.specs.Str.{bytes_eq}
use Rattle.pawk_value.specs.Value.{Val, Uninit, Maybe}
use Rattle.pawk_array.specs.Entries.{Entries, found, put}
use Rattle.pawk_array.proofs.EntriesLemmas.{found-put}
use Rattle.pawk_lex.specs.Vocabulary.{is_among}
use Rattle.pawk_store.specs.Openings.{Knows, texts_of, value_after, with_assignments, with_name}

-- ---- values

chosen : (b : Bool) (x : Val) (o : Option Val) (v : Val) → unwrap_or (if b then Some x else o) v ≡ (if b then x else unwrap_or o v)
chosen true x o v = refl
chosen false x o v = refl

-- what is kept of assignments by their names is what the last of a name gives it
pub value_kept : (pairs : List (List ℕ × List ℕ)) (es : Entries) (w : List ℕ) (v : Val) →
    unwrap_or (found w (with_assignments pairs es)) v ≡ value_after pairs w (unwrap_or (found w es) v)
value_kept [] es w v = refl
value_kept (a ∷ rest) es w v =
    value_kept rest (put a.0 (Maybe a.1) es) w v
    ∙ ap (λ o. value_after rest w (unwrap_or o v)) (found-put w a.0 (Maybe a.1) es)
    ∙ ap (value_after rest w) (chosen (bytes_eq w a.0) (Maybe a.1) (found w es) v)

-- ---- names

either_of : (a b c : Bool) → (a || (b || c)) ≡ ((a || b) || c)
either_of true b c = refl
either_of false b c = refl

or_not : (b : Bool) → (b || false) ≡ b
or_not true = refl
or_not false = refl

among_more : (w n : List ℕ) (ns : List (List ℕ)) → is_among (ns ++ n ∷ []) w ≡ (is_among ns w || bytes_eq w n)
among_more w n [] = or_not (bytes_eq w n)
among_more w n (x ∷ ns) = ap (λ b. bytes_eq w x || b) (among_more w n ns) ∙ either_of (bytes_eq w x) (is_among ns w) (bytes_eq w n)

some_more : (b : Bool) (o : Option Val) → is_some (if b then Some Uninit else o) ≡ (is_some o || b)
some_more true None = refl
some_more true (Some v) = refl
some_more false None = refl
some_more false (Some v) = refl

-- a name that gets an element is known
pub knows_more : (es : Entries) (ns : List (List ℕ)) (n : List ℕ) → Knows es ns → Knows (put n Uninit es) (ns ++ n ∷ [])
knows_more es ns n h w =
    ap is_some (found-put w n Uninit es)
    ∙ some_more (bytes_eq w n) (found w es)
    ∙ ap (λ b. b || bytes_eq w n) (h w)
    ∙ sym (among_more w n ns)

pub texts_and : (es : List (Vec ℕ Global)) (e : Vec ℕ Global) → texts_of (es ++ e ∷ []) ≡ texts_of es ++ e.items ∷ []
texts_and [] e = refl
texts_and (x ∷ es) e = ap (λ ts. x.items ∷ ts) (texts_and es e)

pub texts_more : (ns : List (List ℕ)) (w : List ℕ) (es more : List (Vec ℕ Global)) (e : Vec ℕ Global) → e.items ≡ w → more ≡ es ++ e ∷ [] →
    ns ++ texts_of more ≡ (ns ++ texts_of es) ++ w ∷ []
texts_more ns w es more e at pushed =
    ap (λ m. ns ++ texts_of m) pushed
    ∙ ap (λ ts. ns ++ ts) (texts_and es e)
    ∙ ap (λ x. ns ++ (texts_of es ++ x ∷ [])) at
    ∙ sym (append_assoc (ns) (texts_of es) (w ∷ []))

pub name_kept : (w : List ℕ) (ns : List (List ℕ)) (known : Entries) → Knows known ns → is_some (found w known) ≡ true → ns ≡ with_name ns w
name_kept w ns known h e = rw (sym (h w) ∙ e) refl

pub name_added : (w : List ℕ) (ns : List (List ℕ)) (known : Entries) → Knows known ns → is_some (found w known) ≡ false → ns ++ w ∷ [] ≡ with_name ns w
name_added w ns known h e = rw (sym (h w) ∙ e) refl
