use Rattle.kept_places.proofs.LeadLaws.{places_rise, places_lead}
use Rattle.kept_places.proofs.law.places_lead_back.Goals as goal

pub returns : goal.returns
returns c =
    record {
      rise = places_rise;
      lead = λ files marks accepted bytes named. places_lead files marks accepted (λ f x there. c.accepted_codes_name_kept_rows.ensures files marks f x accepted there (bytes f x there) named);
    }
