pub mod CursorLaws
pub mod SurveyLaws
pub mod RankLaws
