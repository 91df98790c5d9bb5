-- What was written, part by part.
use Rattle.std.proofs.Common.{◌≡◌, ℕ, List, [], ◌++◌, Option, Some, None, Result, Ok, Err, refl, ap, sym, ◌∙◌, subst, append_assoc, append-nil}
use Rattle.gev_links.specs.Faults.{Rose}
use Rattle.gev_links.specs.Told.{Appends, WritesFront}
use Rattle.gev_record.specs.declared.record_end.RecordEnd.{RecordEnd}
use Rattle.gev_record.specs.declared.record_end.RecordEnd.TheVariants.{WriteFault, NoMemory}
use Rattle.gev_record.specs.Writing.{Writes}

pub Appends-none : (w : Option (List ℕ)) → Appends w w []
Appends-none None = refl
Appends-none (Some w) = ap (λ l. Some l) (sym (append-nil w))

pub Appends-then : (w v u : Option (List ℕ)) (a b : List ℕ) → Appends w v a → Appends v u b → Appends w u (a ++ b)
Appends-then None v u a b h k = subst (λ v. Appends v u b) h k
Appends-then (Some w) v u a b h k =
    let last : Appends (Some (w ++ a)) u b = subst (λ v. Appends v u b) h k in
    last ∙ ap (λ t. Some t) (append_assoc w a b)

pub front_then : (w v u : Option (List ℕ)) (a b : List ℕ) → Appends w v a → WritesFront v u b → WritesFront w u (a ++ b)
front_then w v u a b h f = record {
  front = a ++ f.front;
  rest = f.rest;
  parts = ap (λ (t : List ℕ). a ++ t) f.parts ∙ sym (append_assoc a f.front f.rest);
  appended = Appends-then w v u a f.front h f.appended;
}

pub front_of_more : (w v : Option (List ℕ)) (a b : List ℕ) → WritesFront w v a → WritesFront w v (a ++ b)
front_of_more w v a b f = record {
  front = f.front;
  rest = f.rest ++ b;
  parts = ap (λ (t : List ℕ). t ++ b) f.parts ∙ append_assoc f.front f.rest b;
  appended = f.appended;
}

pub front_none : (w : Option (List ℕ)) (text : List ℕ) → WritesFront w w text
front_none w text = record { front = []; rest = text; parts = refl; appended = Appends-none w }

pub front_whole : (w v : Option (List ℕ)) (text : List ℕ) → Appends w v text → WritesFront w v text
front_whole w v text h = record { front = text; rest = []; parts = sym (append-nil text); appended = h }

-- One text was written, and then another.
pub writes_then : (r : Result (Unit {0}) RecordEnd) (w v u : Option (List ℕ)) (f g h : ℕ) (a b : List ℕ)
    → Writes (Ok tt) w v f g a → Writes r v u g h b → Writes r w u f h (a ++ b)
writes_then (Ok done) w v u f g h a b one two = (Appends-then w v u a b one.0 two.0, two.1 ∙ one.1)
writes_then (Err WriteFault) w v u f g h a b one two = (front_then w v u a b one.0 two.0, subst (λ (k : ℕ). Rose k h) one.1 two.1)
writes_then (Err NoMemory) w v u f g h a b one two = (front_then w v u a b one.0 two.0, two.1 ∙ one.1)

-- Writing stopped in a text, and the next wasn't begun.
pub writes_stops : (stop : RecordEnd) (w v : Option (List ℕ)) (f g : ℕ) (a b : List ℕ) → Writes (Err stop) w v f g a → Writes (Err stop) w v f g (a ++ b)
writes_stops WriteFault w v f g a b one = (front_of_more w v a b one.0, one.1)
writes_stops NoMemory w v f g a b one = (front_of_more w v a b one.0, one.1)

pub writes_none : (w : Option (List ℕ)) (f : ℕ) (text : List ℕ) → Writes (Err NoMemory) w w f f text
writes_none w f text = (front_none w text, refl)

-- What is written from here on makes the whole from the start.
pub record Leads (w v : Option (List ℕ)) (f g : ℕ) (whole rest : List ℕ) : Type 0 where
  pub to : (r : Result (Unit {0}) RecordEnd) (u : Option (List ℕ)) (h : ℕ) → Writes r v u g h rest → Writes r w u f h whole

pub leads_start : (w : Option (List ℕ)) (f : ℕ) (whole : List ℕ) → Leads w w f f whole whole
leads_start w f whole = record { to = λ r u h d. d }

pub leads_on : (w v u : Option (List ℕ)) (f g h : ℕ) (whole rest a more : List ℕ)
    → Leads w v f g whole rest → rest ≡ a ++ more → Writes (Ok tt) v u g h a → Leads w u f h whole more
leads_on w v u f g h whole rest a more l e one = record {
  to = λ r t k d. l.to r t k (subst (Writes r v t g k) (sym e) (writes_then r v u t g h k a more one d));
}

pub leads_stops : (stop : RecordEnd) (w v u : Option (List ℕ)) (f g h : ℕ) (whole rest a more : List ℕ)
    → Leads w v f g whole rest → rest ≡ a ++ more → Writes (Err stop) v u g h a → Writes (Err stop) w u f h whole
leads_stops stop w v u f g h whole rest a more l e one =
    l.to (Err stop) u h (subst (Writes (Err stop) v u g h) (sym e) (writes_stops stop v u g h a more one))

pub leads_end : (w v : Option (List ℕ)) (f g : ℕ) (whole rest : List ℕ) → Leads w v f g whole rest → rest ≡ [] → Writes (Ok tt) w v f g whole
leads_end w v f g whole rest l e = l.to (Ok tt) v g (subst (Writes (Ok tt) v v g g) (sym e) (Appends-none v, refl))
