-- What a host has written in plain streams, at each of its ends.
use Rattle.std.proofs.Common.{◌≡◌, ◌⊎◌, inl, inr, ℕ, Bool, true, false, List, [], Ok, refl, sym, subst}
use Rattle.std.specs.Prelude.{Option, Some}
use Rattle.ch_base.specs.declared.address.Address.{Address}
use Rattle.ch_wire.specs.declared.frame.Frame.{Frame}
use Rattle.ch_model.specs.declared.step.Step.{Step}
use Rattle.ch_model.specs.Host.{host_next}
use Rattle.ch_model.specs.HostState.{HostState}
use Rattle.ch_laws_links.specs.Naming.{IsNaming}
use Rattle.ch_laws_writes.specs.Dues.{Due, due_at}
use Rattle.ch_laws_writes.specs.Orderly.{IsOrderly}
use Rattle.ch_laws_writes.proofs.Ordered.{is_key, at_key}
use Rattle.ch_model.specs.HostSteps.{link_with}
use Rattle.ch_laws_calls.specs.FitsTurns.{bytes_at, IsKind}
use Rattle.ch_laws_calls.proofs.FitsStores.{none_kind}
use Rattle.ch_laws_plain.specs.Streams.{IsPlainStream}
use Rattle.ch_laws_plain.specs.Talks.{items_of, LinkIsPlain, HostIsPlain, IsUpThere, Talks, Speaks}
use Rattle.ch_laws_plain.specs.Turns.{WriterPlain}
use Rattle.ch_laws_plain.proofs.Talks.{frames_follow, frames_back}
use Rattle.ch_laws_plain.proofs.Items.{next_talks}

-- what an endpoint has asked, one call after another
pub speaks_write : (own : ℕ → Address) (host after : HostState) (told : List Step) → IsOrderly own host → Speaks host told after → (n : ℕ) → WriterPlain own (due_at host n) (bytes_at n told)
speaks_write own host after told o s n = record {
  said = items_of (s.said n);
  spelled = s.spelled n;
  kind = by_up (s.where_up n);
  stream = subst IsPlainStream (sym (frames_back (s.said n))) (s.streams n);
} where
  by_up : (s.said n ≡ []) ⊎ IsUpThere host n → IsKind own (due_at host n) (items_of (s.said n))
  by_up (inl none) = subst (λ (l : List Frame). IsKind own (due_at host n) (items_of l)) (sym none) (none_kind own (due_at host n))
  by_up (inr u) = subst (λ (d : Option Due). IsKind own d (items_of (s.said n))) (sym ((o.links u.end u.peer).up n u.probed u.up)) (frames_follow (s.said n) (s.may n))

-- what the host did of itself
pub talks_write : (own : ℕ → Address) (host after : HostState) (end : ℕ) (peer : Address) (told : List Step) → Talks own host end peer told after → (n : ℕ) → WriterPlain own (due_at host n) (bytes_at n told)
talks_write own host after end peer told t n = record { said = t.said n; spelled = t.spelled n; kind = t.kind n; stream = t.streams n }

-- and the host is plain then
pub talks_plain : (own : ℕ → Address) (host after : HostState) (end : ℕ) (peer : Address) (told : List Step) → HostIsPlain host → Talks own host end peer told after → HostIsPlain after
talks_plain own host after end peer told p t e q = by_test (is_key end peer e q) refl where
  by_test : (b : Bool) → is_key end peer e q ≡ b → LinkIsPlain (link_with after e q)
  by_test true h = at_key (λ m x. LinkIsPlain (link_with after m x)) end peer e q h t.plain
  by_test false h = subst LinkIsPlain (sym (t.others e q h)) (p e q)

-- an item that a host reads leaves it plain, and all that it writes then is
pub next_writes : (own : ℕ → Address) (host after : HostState) (told : List Step) → IsNaming host → IsOrderly own host → HostIsPlain host → host_next host ≡ Ok (Some told, after) → HostIsPlain after × ((n : ℕ) → WriterPlain own (due_at host n) (bytes_at n told))
next_writes own host after told s o p e = let t = next_talks own host after told s o p e in (talks_plain own host after t.0 t.1 told p t.2, talks_write own host after t.0 t.1 told t.2)
