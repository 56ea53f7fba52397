-- That a watch is told changes no pair, and ends nobody.
use Rattle.std.specs.Prelude.{◌≡◌, ℕ, ◌+◌, Bool, true, false, ◌&&◌, List, [], ◌∷◌, ◌++◌, slice_get, slice_set, Option, Some, None, Result, Ok, Err, codes, if◌then◌else◌}
use Rattle.std.specs.Option.{option_map, option_map_or}
use Rattle.std.proofs.Common.{refl, ap, sym, ◌∙◌, subst}
use Rattle.ch_base.specs.AddressValues.{AddressValue}
use Rattle.ch_base.specs.declared.memory.Stop.{Stop}
use Rattle.ch_base.specs.declared.memory.Stop.TheVariants as stops
use Rattle.ch_ident.specs.declared.identifier.Identifier.TheVariants as ends
use Rattle.ch_ident.specs.declared.identifier.Ref.{Ref}
use Rattle.ch_ident.specs.declared.node_message.NodeMessage.{NodeMessage}
use Rattle.ch_ident.specs.declared.node_message.NodeMessage.TheVariants.{Died}
use Rattle.ch_ident.specs.declared.reason.Reason.{Reason}
use Rattle.ch_ident.specs.Spelling as spelling
use Rattle.ch_mail.specs.declared.error.MailError.{MailError}
use Rattle.ch_mail.specs.declared.error.MailError.TheVariants.{NotLive, Empty, OutOfMemory, Worn}
use Rattle.ch_mail.specs.declared.life.Life.{Life}
use Rattle.ch_mail.specs.declared.life.Life.TheVariants as lives
use Rattle.ch_mail.specs.Lives.{is_live, is_over}
use Rattle.ch_mail.specs.Process.{Process}
use Rattle.ch_mail.specs.Mail.{life_of, put_of, doomed, doom_at, doom_of}
use Rattle.ch_watch.specs.declared.error.WatchError.{WatchError}
use Rattle.ch_watch.specs.declared.waiting.Kind.{Kind}
use Rattle.ch_watch.specs.declared.waiting.Kind.TheVariants as kinds
use Rattle.ch_watch.specs.declared.waiting.Waiting.{Waiting}
use Rattle.ch_watch.specs.Lists.{Lists}
use Rattle.ch_watch.specs.Watches.{told_of}
use Rattle.ch_model.specs.declared.act.Act.{Act}
use Rattle.ch_model.specs.declared.act.Act.TheVariants as acts
use Rattle.ch_model.specs.declared.note.Note.TheVariants as notes
use Rattle.ch_model.specs.declared.step.Weight.{Weight}
use Rattle.ch_model.specs.declared.step.Weight.TheVariants.{Free}
use Rattle.ch_model.specs.NodeState.{NodeState}
use Rattle.ch_model.specs.NodeActs as node
use Rattle.ch_model.specs.NodeActs.{Done, ◌and_then◌, doing, silent, noting, each_in_turn, or_unchanged}
use Rattle.ch_model.specs.NodeIds.{process_id, is_here}
use Rattle.ch_model.specs.NodeConnections.{drawn, opening, conn_to, tell_first, tell_on, tell_node}
use Rattle.ch_model.specs.NodeLives.{doom, mail_to, link_text}
use Rattle.ch_model.specs.NodeWatches.{is_awaited, without, closing, monitor_told, link_told, told_as, told_closed, told, tell_end}
use Rattle.ch_laws_delivery.specs.Standings.{Ages}
use Rattle.ch_laws_delivery.proofs.Results.{refused, given, went_node}
use Rattle.ch_laws_delivery.proofs.Mails.{put_unmoved, read_same}
use Rattle.ch_laws_delivery.proofs.OwnMail.{Still, with_lives}

-- ---- one thing and then another

pub still_self : (n : NodeState) → Still n n
still_self n = (record { pairs = refl; shut = refl; over = λ by. refl }, record { own = refl; unique = refl; arrived = refl; over = λ by over. over })

pub ages_then : (n m o : NodeState) → Ages n m → Ages m o → Ages n o
ages_then n m o a b = record { own = b.own ∙ a.own; unique = b.unique ∙ a.unique; arrived = b.arrived ∙ a.arrived; over = λ by over. b.over by (a.over by over) }

still_then : (n m o : NodeState) → Still n m → Still m o → Still n o
still_then n m o a b = (record { pairs = b.0.pairs ∙ a.0.pairs; shut = b.0.shut ∙ a.0.shut; over = λ by. b.0.over by ∙ a.0.over by }, ages_then n m o a.1 b.1)

-- what is done leaves the pairs and the ends of the node as they were
abbrev pub LeavesStill : NodeState → Done → Type 0
LeavesStill n d = (did : List Act) (now : NodeState) → d ≡ Ok (did, now) → Still n now

done_still : (n now : NodeState) (did : List Act) → Still n now → LeavesStill n (Ok (did, now))
done_still n now did h other last q = subst (λ (z : NodeState). Still n z) (ap (λ (z : List Act × NodeState). z.1) (given (did, now) (other, last) q)) h

pub after_still : (n : NodeState) (before : List Act) (d : Done) → LeavesStill n d → LeavesStill n (node.after before d)
after_still n before (Ok x) h = done_still n x.1 (before ++ x.0) (h x.0 x.1 refl)
after_still n before (Err e) h = λ did now q. refused e (did, now) q

from_still : (n m : NodeState) (d : Done) → Still n m → LeavesStill m d → LeavesStill n d
from_still n m d a h = λ did now q. still_then n m now a (h did now q)

both_still : (n : NodeState) (d : Done) (next : NodeState → Done) → LeavesStill n d → ((m : NodeState) → LeavesStill m (next m)) → LeavesStill n (d and_then next)
both_still n (Ok x) next h f = from_still n x.1 (node.after x.0 (next x.1)) (h x.0 x.1 refl) (after_still x.1 x.0 (next x.1) (f x.1))
both_still n (Err e) next h f = λ did now q. refused e (did, now) q

pub each_still : {A : Type 0} (f : A → NodeState → Done) → ((x : A) (n : NodeState) → LeavesStill n (f x n)) → (xs : List A) (n : NodeState) → LeavesStill n (each_in_turn f xs n)
each_still f h [] n = done_still n n [] (still_self n)
each_still f h (x ∷ rest) n = both_still n (f x n) (λ m. each_in_turn f rest m) (h x n) (λ m. each_still f h rest m)

-- ---- a message to another node

first_still : (n : NodeState) (peer : AddressValue) (said : NodeMessage) (weight : Weight) → LeavesStill n (tell_first n peer said weight)
unfolding tell_first
first_still n peer said weight did now h = by_draw (drawn n) h where
  by_draw : (r : Result ℕ Stop)
      → node.◌>>=◌ r (λ conn. doing (opening conn peer (ends.Node n.own) (ends.Node peer) ++ acts.Put conn (spelling.message said) weight ∷ []) (record n { opened = n.opened + 1; to_nodes = n.to_nodes ++ (peer, conn) ∷ [] })) ≡ Ok (did, now) → Still n now
  by_draw (Err e) q = refused e (did, now) q
  by_draw (Ok conn) q = done_still n (record n { opened = n.opened + 1; to_nodes = n.to_nodes ++ (peer, conn) ∷ [] }) (opening conn peer (ends.Node n.own) (ends.Node peer) ++ acts.Put conn (spelling.message said) weight ∷ [])
      (record { pairs = refl; shut = refl; over = λ by. refl }, record { own = refl; unique = refl; arrived = refl; over = λ by over. over }) did now q

pub tell_node_still : (n : NodeState) (peer : AddressValue) (said : NodeMessage) (weight : Weight) → LeavesStill n (tell_node n peer said weight)
unfolding tell_node
tell_node_still n peer said weight = by_conn (conn_to n peer) where
  by_conn : (o : Option ℕ) → LeavesStill n (tell_on n peer said weight o)
  by_conn None = first_still n peer said weight
  by_conn (Some conn) = done_still n n (acts.Put conn (spelling.message said) weight ∷ []) (still_self n)

-- ---- the mail

pub unchanged_lives : (before : List Process) (r : Result (List Process) MailError) (mail : List Process) → ((x : List Process) → r ≡ Ok x → (i : ℕ) → life_of x i ≡ life_of before i) → or_unchanged before r ≡ Ok mail → (i : ℕ) → life_of mail i ≡ life_of before i
unchanged_lives before (Ok x) mail h q i = ap (λ (z : List Process). life_of z i) (sym (given x mail q)) ∙ h x refl i
unchanged_lives before (Err NotLive) mail h q i = ap (λ (z : List Process). life_of z i) (sym (given before mail q))
unchanged_lives before (Err Empty) mail h q i = ap (λ (z : List Process). life_of z i) (sym (given before mail q))
unchanged_lives before (Err OutOfMemory) mail h q i = refused stops.OutOfMemory mail q
unchanged_lives before (Err Worn) mail h q i = refused stops.Worn mail q

mail_still : (n : NodeState) (number : ℕ) (mark body : List ℕ) (now : NodeState) → mail_to n number mark body ≡ Ok now → Still n now
unfolding mail_to
mail_still n number mark body now h =
    let put = put_of n.mail number None (record { mark = mark; body = body }) in
    let last : List Process → Result NodeState Stop = λ mail. Ok (record n { mail = mail }) in
    let one = went_node (or_unchanged n.mail put) last now h in
    subst (λ (z : NodeState). Still n z) (given (record n { mail = one.value }) now one.next)
    (with_lives n one.value (unchanged_lives n.mail put one.value (λ x q. (put_unmoved n.mail number None (record { mark = mark; body = body }) x q).life) one.is))

-- ---- doom

-- a process that is doomed isn't over, nor was it
doom_still : (n : NodeState) (number : ℕ) (text : List ℕ) → LeavesStill n (doom n number text)
unfolding doom doom_of doomed life_of
doom_still n number text = done_still n (record n { mail = (doom_at n.mail number text (slice_get n.mail number)).1 }) (if (doom_at n.mail number text (slice_get n.mail number)).0 then acts.Note (notes.Doom (process_id n number) text) ∷ [] else [])
    (with_ended n (doom_at n.mail number text (slice_get n.mail number)).1 (λ i. by_there (slice_get n.mail number) refl i)) where
      none_live : (life : Life) → is_live life ≡ true → is_over life ≡ false
      none_live lives.Live h = refl
      none_live (lives.Doomed words) h = refl
      none_live (lives.Over reason) h = absurd (clash h) where
        clash : false ≡ true → ⊥
        clash e = cc

      with_ended : (n : NodeState) (mail : List Process) → ((i : ℕ) → option_map_or is_over (life_of mail i) false ≡ option_map_or is_over (life_of n.mail i) false) → Still n (record n { mail = mail })
      with_ended n mail same = (record { pairs = refl; shut = refl; over = same }, record { own = refl; unique = refl; arrived = refl; over = λ by over. same by ∙ over })

      through : (o : Option Process) → option_map_or is_over (option_map (λ (z : Process). z.life) o) false ≡ option_map_or (λ (b : Bool). b) (option_map (λ (z : Process). is_over z.life) o) false
      through None = refl
      through (Some process) = refl

      by_live : (process : Process) (b : Bool) → is_live process.life ≡ b → is_over (if◌then◌else◌ {A = Bool × Process} b (true, record process { life = lives.Doomed text }) (false, process)).1.life ≡ is_over process.life
      by_live process true is = sym (none_live process.life is)
      by_live process false is = refl

      by_there : (o : Option Process) → slice_get n.mail number ≡ o → (i : ℕ) → option_map_or is_over (option_map (λ (z : Process). z.life) (slice_get (doom_at n.mail number text o).1 i)) false ≡ option_map_or is_over (option_map (λ (z : Process). z.life) (slice_get n.mail i)) false
      by_there None there i = refl
      by_there (Some process) there i = through (slice_get (slice_set n.mail number (doomed process text).1) i)
          ∙ ap (λ (o : Option Bool). option_map_or (λ (b : Bool). b) o false) (read_same n.mail number process (doomed process text).1 there (λ (z : Process). is_over z.life) (by_live process (is_live process.life) refl) i)
          ∙ sym (through (slice_get n.mail i))

-- ---- a watch is told

pub watch_still : (kind : Kind) (n : NodeState) (watch : Ref) (reason : Reason) (owner : ℕ) → LeavesStill n (told_as kind n watch reason owner)
unfolding monitor_told link_told
watch_still kinds.Monitor n watch reason owner = λ did now h.
    let one = went_node (mail_to n owner (codes "$died") (spelling.reference watch ++ spelling.reason reason)) (λ (told : NodeState). noting (notes.Told watch reason) told) (did, now) h in
    still_then n one.value now (mail_still n owner (codes "$died") (spelling.reference watch ++ spelling.reason reason) one.value one.is) (done_still one.value one.value (acts.Note (notes.Told watch reason) ∷ []) (still_self one.value) did now one.next)
watch_still kinds.Link n watch reason owner = both_still n (noting (notes.Told watch reason) n) (λ m. doom m owner (link_text reason)) (done_still n n (acts.Note (notes.Told watch reason) ∷ []) (still_self n)) (λ m. doom_still m owner (link_text reason))
watch_still kinds.Spawn n watch reason owner = done_still n n [] (still_self n)
watch_still kinds.Ask n watch reason owner = done_still n n [] (still_self n)

told_still : (n : NodeState) (watch : Ref) (reason : Reason) → LeavesStill n (told n watch reason)
unfolding told closing
told_still n watch reason = by_awaited (is_here n watch.node && is_awaited n.watches kinds.Monitor watch.number) where
  by_list : (r : Result (Waiting × Lists) WatchError) → LeavesStill n (told_closed n watch reason (without n r))
  by_list (Err e) = done_still n n [] (still_self n)
  by_list (Ok closed) = from_still n (record n { watches = closed.1 }) (told_as closed.0.kind (record n { watches = closed.1 }) watch reason closed.0.owner)
      (record { pairs = refl; shut = refl; over = λ by. refl }, record { own = refl; unique = refl; arrived = refl; over = λ by over. over }) (watch_still closed.0.kind (record n { watches = closed.1 }) watch reason closed.0.owner)

  by_awaited : (b : Bool) → LeavesStill n (told_closed n watch reason (if b then without n (told_of n.watches watch.number) else None))
  by_awaited true = by_list (told_of n.watches watch.number)
  by_awaited false = done_still n n [] (still_self n)

pub tell_end_still : (n : NodeState) (watch : Ref) (reason : Reason) → LeavesStill n (tell_end n watch reason)
unfolding tell_end
tell_end_still n watch reason = by_here (is_here n watch.node) where
  by_here : (b : Bool) → LeavesStill n (if b then told n watch reason else tell_node n watch.node (Died watch reason) Free)
  by_here true = told_still n watch reason
  by_here false = tell_node_still n watch.node (Died watch reason) Free
