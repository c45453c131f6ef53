use Rattle.std.proofs.Common.{Some, subst}
use Rattle.pawk_ere.specs.Caches.{IsOfText}
use Rattle.pawk_ere.proofs.Keeping.{rest_of, taken_of}
use Rattle.pawk_ere.proofs.cache.take_other.Goals as goal

pub returns-in_err-text-clause-others : goal.returns-in_err-text-clause-others
returns-in_err-text-clause-others c = rest_of _ c.args.others.now.entries _ c.args.others.now.cap c.pop_entry.ensures.entries c.requires

pub returns-clause-others : goal.returns-clause-others
returns-clause-others c = rest_of _ c.args.others.now.entries _ c.args.others.now.cap c.pop_entry.ensures.entries c.requires

pub returns-clause-text : goal.returns-clause-text
returns-clause-text c = (taken_of c.args.pattern.now c.args.others.now.entries (Some (c.in_ok-text.text, c.in_ok-text.matcher)) c.in_ok-text.ensures.value c.requires).0

pub returns-clause-matcher : goal.returns-clause-matcher
returns-clause-matcher c =
    let found = taken_of c.args.pattern.now c.args.others.now.entries (Some (c.in_ok-text.text, c.in_ok-text.matcher)) c.in_ok-text.ensures.value c.requires in
    subst (λ bytes. IsOfText bytes c.in_ok-text.matcher) found.0 found.1
