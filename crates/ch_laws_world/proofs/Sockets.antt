-- How the sockets of a world go on where one is kept in its place or a new one comes.
use Rattle.std.proofs.Common.{◌≡◌, ◌≤◌, ℕ, Bool, true, false, cond, List, [], ◌∷◌, ◌++◌, refl, sym, ap, ◌∙◌, subst, arith}
use Rattle.std.specs.Prelude.{find, Option, Some, None, Result, Ok, Err}
use Rattle.ch_base.specs.declared.address.Address.{Address}
use Rattle.ch_model.specs.declared.name.End.{End}
use Rattle.ch_model.specs.declared.name.End.TheVariants.{O, T}
use Rattle.ch_model.specs.declared.name.SockName.{SockName}
use Rattle.ch_model.specs.WorldState.{WorldEnd, WorldSocket, World}
use Rattle.ch_model.specs.WorldSockets.{end_of, with_end, is_socket_named, store_in, with_socket, with_end_of, new_socket}
use Rattle.ch_laws_world.specs.Grows.{stage_rank, EndGoes, SocketGoes, SocketsGo, names_of, count_between, NumberedAfter, Numbered, Grows}
use Rattle.ch_laws_world.proofs.Names.{found_name, is_count, none_yet, numbered_next}

-- ---- one after another

least : (m n k : ℕ) → m ≤ n → n ≤ k → m ≤ k
least m n k a b = omega arith

same : (n : ℕ) → n ≤ n
same n = omega arith

pub end_stays : (end : WorldEnd) → EndGoes end end
end_stays end = record { cell = refl; stage = same (stage_rank end.stage) }

end_onward : (one two three : WorldEnd) → EndGoes one two → EndGoes two three → EndGoes one three
end_onward one two three a b = record { cell = b.cell ∙ a.cell; stage = least _ _ _ a.stage b.stage }

socket_stays : (socket : WorldSocket) → SocketGoes socket socket
socket_stays socket = record { name = refl; from_host = refl; o = end_stays socket.o; t = end_stays socket.t }

socket_onward : (one two three : WorldSocket) → SocketGoes one two → SocketGoes two three → SocketGoes one three
socket_onward one two three a b = record { name = b.name ∙ a.name; from_host = b.from_host ∙ a.from_host; o = end_onward one.o two.o three.o a.o b.o; t = end_onward one.t two.t three.t a.t b.t }

sockets_stay : (sockets more : List WorldSocket) → SocketsGo sockets (sockets ++ more)
sockets_stay [] more = tt
sockets_stay (socket ∷ rest) more = (socket_stays socket, sockets_stay rest more)

pub sockets_rest : (sockets : List WorldSocket) → SocketsGo sockets sockets
sockets_rest [] = tt
sockets_rest (socket ∷ rest) = (socket_stays socket, sockets_rest rest)

sockets_onward : (one two three : List WorldSocket) → SocketsGo one two → SocketsGo two three → SocketsGo one three
sockets_onward [] two three a b = tt
sockets_onward (x ∷ one) [] three a b = absurd a
sockets_onward (x ∷ one) (y ∷ two) [] a b = absurd b
sockets_onward (x ∷ one) (y ∷ two) (z ∷ three) a b = (socket_onward x y z a.0 b.0, sockets_onward one two three a.1 b.1)

pub rests : (world : World) → Numbered world.sockets → Grows world world
rests world k = record { names = refl; strangers = refl; homes = refl; sockets = sockets_rest world.sockets; numbered = k }

pub onward : (one two three : World) → Grows one two → Grows two three → Grows one three
onward one two three a b = record { names = b.names ∙ a.names; strangers = b.strangers ∙ a.strangers; homes = b.homes ∙ a.homes; sockets = sockets_onward one.sockets two.sockets three.sockets a.sockets b.sockets; numbered = b.numbered }

-- ---- a socket that is kept in its place

stored_goes : (next known : WorldSocket) (sockets : List WorldSocket) → find (is_socket_named next.name) sockets ≡ Some known → SocketGoes known next → SocketsGo sockets (store_in next sockets)
stored_goes next known [] e g = absurd cc
stored_goes next known (first ∷ rest) e g = by_test (is_socket_named next.name first) (stored_goes next known rest) e
  where
    by_test : (b : Bool) → (find (is_socket_named next.name) rest ≡ Some known → SocketGoes known next → SocketsGo rest (store_in next rest)) → cond b (Some first) (find (is_socket_named next.name) rest) ≡ Some known → SocketsGo (first ∷ rest) (cond b (next ∷ rest) (first ∷ store_in next rest))
    by_test true ih e = let this : known ≡ first = cc in (subst (λ (s : WorldSocket). SocketGoes s next) this g, sockets_rest rest)
    by_test false ih e = (socket_stays first, ih e g)

stored_names : (next known : WorldSocket) (sockets : List WorldSocket) → find (is_socket_named next.name) sockets ≡ Some known → next.name ≡ known.name → names_of (store_in next sockets) ≡ names_of sockets
stored_names next known [] e g = absurd cc
stored_names next known (first ∷ rest) e g = by_test (is_socket_named next.name first) (stored_names next known rest) e
  where
    by_test : (b : Bool) → (find (is_socket_named next.name) rest ≡ Some known → next.name ≡ known.name → names_of (store_in next rest) ≡ names_of rest) → cond b (Some first) (find (is_socket_named next.name) rest) ≡ Some known → names_of (cond b (next ∷ rest) (first ∷ store_in next rest)) ≡ first.name ∷ names_of rest
    by_test true ih e = let this : known ≡ first = cc in ap (λ (n : SockName). n ∷ names_of rest) (g ∙ ap (λ (s : WorldSocket). s.name) this)
    by_test false ih e = ap (λ (ns : List SockName). first.name ∷ ns) (ih e g)

pub stored : (next known : WorldSocket) (world : World) → Numbered world.sockets → find (is_socket_named next.name) world.sockets ≡ Some known → SocketGoes known next → Grows world (with_socket next world)
stored next known world k e g = record { names = refl; strangers = refl; homes = refl; sockets = stored_goes next known world.sockets e g; numbered = subst (NumberedAfter []) (sym (stored_names next known world.sockets e g.name)) k }

-- one end of a socket that is found goes on
pub end_goes : (name : SockName) (which : End) (f : WorldEnd → WorldEnd) (world : World) → Numbered world.sockets → ((socket : WorldSocket) → find (is_socket_named name) world.sockets ≡ Some socket → EndGoes (end_of which socket) (f (end_of which socket))) → Grows world (with_end_of name which f world)
end_goes name which f world k g = by_found (find (is_socket_named name) world.sockets) refl
  where
    by_end : (which : End) (socket : WorldSocket) (end : WorldEnd) → EndGoes (end_of which socket) end → SocketGoes socket (with_end which end socket)
    by_end O socket end g = record { name = refl; from_host = refl; o = g; t = end_stays socket.t }
    by_end T socket end g = record { name = refl; from_host = refl; o = end_stays socket.o; t = g }

    by_name : (socket : WorldSocket) (next : SockName) → next ≡ name → find (is_socket_named name) world.sockets ≡ Some socket → find (is_socket_named next) world.sockets ≡ Some socket
    by_name socket next is e = subst (λ (n : SockName). find (is_socket_named n) world.sockets ≡ Some socket) (sym is) e

    by_found : (o : Option WorldSocket) → find (is_socket_named name) world.sockets ≡ o → Grows world (elim o as (λ o. World) [
      | None ↦ world
      | Some socket ↦ with_socket (with_end which (f (end_of which socket)) socket) world
    ])
    by_found None e = rests world k
    by_found (Some socket) e =
        let gone : SocketGoes socket (with_end which (f (end_of which socket)) socket) = by_end which socket (f (end_of which socket)) (g socket e) in
        stored (with_end which (f (end_of which socket)) socket) socket world k (by_name socket (with_end which (f (end_of which socket)) socket).name (gone.name ∙ found_name name socket world.sockets e) e) gone

-- ---- a socket that is new

appended : (next : WorldSocket) (sockets : List WorldSocket) → find (is_socket_named next.name) sockets ≡ None → store_in next sockets ≡ sockets ++ next ∷ []
appended next [] e = refl
appended next (first ∷ rest) e = by_test (is_socket_named next.name first) (appended next rest) e
  where
    by_test : (b : Bool) → (find (is_socket_named next.name) rest ≡ None → store_in next rest ≡ rest ++ next ∷ []) → cond b (Some first) (find (is_socket_named next.name) rest) ≡ None → cond b (next ∷ rest) (first ∷ store_in next rest) ≡ first ∷ (rest ++ next ∷ [])
    by_test true ih e = absurd cc
    by_test false ih e = ap (λ (s : List WorldSocket). first ∷ s) (ih e)

names_appended : (sockets : List WorldSocket) (next : WorldSocket) → names_of (sockets ++ next ∷ []) ≡ names_of sockets ++ next.name ∷ []
names_appended [] next = refl
names_appended (first ∷ rest) next = ap (λ (ns : List SockName). first.name ∷ ns) (names_appended rest next)

-- a socket whose number is how many of its ends there are comes last
pub came_last : (next : WorldSocket) (world : World) → Numbered world.sockets → next.name.number ≡ count_between next.name.from next.name.to (names_of world.sockets) → (with_socket next world).sockets ≡ world.sockets ++ next ∷ []
came_last next world k e = appended next world.sockets (none_yet next.name [] world.sockets k (most _ _ e))
  where
    most : (n m : ℕ) → n ≡ m → m ≤ n
    most n m e = omega arith

added : (next : WorldSocket) (world : World) → Numbered world.sockets → next.name.number ≡ count_between next.name.from next.name.to (names_of world.sockets) → Grows world (with_socket next world)
added next world k e = record {
  names = refl;
  strangers = refl;
  homes = refl;
  sockets = subst (SocketsGo world.sockets) (sym (came_last next world k e)) (sockets_stay world.sockets (next ∷ []));
  numbered = subst (λ (s : List WorldSocket). NumberedAfter [] (names_of s)) (sym (came_last next world k e)) (subst (NumberedAfter []) (sym (names_appended world.sockets next)) (numbered_next [] (names_of world.sockets) next.name k e));
}

pub opened_new : (world : World) (from to from_host : List ℕ) (opener : WorldEnd) (address : Address) → Numbered world.sockets → Grows world (with_socket (new_socket world from to from_host opener address) world)
opened_new world from to from_host opener address k = added (new_socket world from to from_host opener address) world k (is_count from to world.sockets)

-- ---- whatever was done

abbrev pub AllGrow : {S E : Type 0} → World → Result (S × World) E → Type 0
AllGrow before (Ok done) = Grows before done.1
AllGrow before (Err e) = Unit {0}

pub after : {S E : Type 0} (one two : World) (done : Result (S × World) E) → Grows one two → AllGrow two done → AllGrow one done
after one two (Ok done) a b = onward one two done.1 a b
after one two (Err e) a b = tt
