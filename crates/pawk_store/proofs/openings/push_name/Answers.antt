use Rattle.std.proofs.Common.{◌≡◌, ◌∙◌, false, true, subst, sym}
use Rattle.std.specs.Prelude.{◌++◌, ◌∷◌, [], is_some}
use Rattle.pawk_array.specs.Entries.{found, put}
use Rattle.pawk_value.specs.Value.{Uninit}
use Rattle.pawk_store.specs.Openings.{Knows, texts_of}
use Rattle.pawk_store.proofs.OpeningLemmas.{knows_more, name_added, name_kept, texts_more}
use Rattle.pawk_store.proofs.openings.push_name.Goals as goal

pub returns-then-contains : goal.returns-then-contains
returns-then-contains c names knows =
    let here : is_some (found c.args.name.now c.args.known.now) ≡ true = sym c.contains.ensures ∙ c.if-contains.true in
    (knows, name_kept c.args.name.now (names ++ texts_of c.args.extras.now.items) c.args.known.now knows here)

pub returns : goal.returns
returns c names knows =
    let w = c.args.name.now in
    let ns = names ++ texts_of c.args.extras.now.items in
    let away : is_some (found w c.args.known.now) ≡ false = sym c.contains.ensures ∙ c.if-contains.false in
    let more : names ++ texts_of c.push.new.self.items ≡ ns ++ w ∷ [] =
    texts_more names w c.args.extras.now.items c.push.new.self.items c.in_ok-name.name c.in_ok-name.ensures.items c.in_ok-push.ensures.items in (
      subst (λ es. Knows es (names ++ texts_of c.push.new.self.items)) (sym c.in_ok-set.ensures)
          (subst (λ ts. Knows (put w Uninit c.args.known.now) ts) (sym more) (knows_more c.args.known.now ns w knows)),
      more ∙ name_added w ns c.args.known.now knows away,
    )
